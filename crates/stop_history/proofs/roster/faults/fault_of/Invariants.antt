-- The search for the first fault of rows: none so far has one.
use Rattle.std.proofs.Common.{◌≡◌, [], take, drop}
use Rattle.stop_history.specs.Roster.{first_fault}
use Rattle.stop_history.proofs.roster.faults.fault_of.Given as goal

-- no row so far has a fault
abbrev pub invariant-loop-i : goal.invariant-loop-i
invariant-loop-i l = first_fault [] l.rows ≡ first_fault (take l.i l.rows) (drop l.i l.rows)
