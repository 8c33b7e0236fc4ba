-- Numbers with their names.
use Rattle.std.specs.Prelude.{ℕ, ◌==◌, List, Option, find, option_map}
use Rattle.std.specs.Borrow.{Bor}

-- a number and its name
abbrev pub Named : Type 0
Named = ℕ × List ℕ

-- a row of a table of the program
abbrev pub named : ℕ × Bor (List ℕ) → Named
named row = (row.0, row.1.now)

-- the name of a number: that of the first row with it
abbrev pub name_in : List Named → ℕ → Option (List ℕ)
name_in table number = option_map (λ row. row.1) (find (λ row. row.0 == number) table)
