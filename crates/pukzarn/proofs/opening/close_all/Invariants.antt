-- The handles before this place are closed.
use Rattle.pukzarn.proofs.Cells.{AreClosedBefore}
use Rattle.pukzarn.proofs.opening.close_all.Given as goal

abbrev pub invariant-loop-at : goal.invariant-loop-at
invariant-loop-at l = AreClosedBefore l.at l.handles
