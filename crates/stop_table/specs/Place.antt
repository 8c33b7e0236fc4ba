-- Where the word and the slot of a row stand in the table.
use Rattle.std.specs.Prelude.{◌*◌, ℕ}
use Rattle.stop_table.specs.declared.cells.TheConstants.{PLACES}

-- at the first of the places that the row has; it leaves the others unused
abbrev pub place : ℕ → ℕ
place row = row * PLACES
