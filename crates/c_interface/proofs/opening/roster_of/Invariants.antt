-- The roster has the rows before this one.
use Rattle.std.proofs.Common.{◌≡◌, map, take}
use Rattle.c_interface.specs.Opening.{row_of_ids}
use Rattle.c_interface.proofs.opening.roster_of.Given as goal

abbrev pub invariant-loop-at : goal.invariant-loop-at
invariant-loop-at l = l.roster ≡ take l.at (map row_of_ids l.rows)
