-- The handles from the last one on are filled, and the other ends are left.
use Rattle.pukzarn.proofs.Cells.{TracersLeft}
use Rattle.pukzarn.proofs.opening.fill_tracers.Given as goal

abbrev pub invariant-loop-filled : goal.invariant-loop-filled
invariant-loop-filled l = TracersLeft l.initial.opened l.opened l.tracers l.filled
