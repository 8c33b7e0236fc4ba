-- The rows before this place are copied, and what stands behind it is as it was.
use Rattle.std.proofs.Common.{◌≡◌, ◌++◌, drop, map, take}
use Rattle.c_interface.specs.Opening.{ids_of_row}
use Rattle.c_interface.proofs.scripts.rows_into.Given as goal

abbrev pub invariant-loop-place : goal.invariant-loop-place
invariant-loop-place l = l.to ≡ map ids_of_row (take l.place l.rows) ++ drop l.place l.initial.to
