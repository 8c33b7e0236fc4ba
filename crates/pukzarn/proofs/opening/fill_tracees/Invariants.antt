-- The handles from the last one on are filled, and the other ends are left.
use Rattle.pukzarn.proofs.Cells.{TraceesLeft}
use Rattle.pukzarn.proofs.opening.fill_tracees.Given as goal

abbrev pub invariant-loop-filled : goal.invariant-loop-filled
invariant-loop-filled l = TraceesLeft l.initial.opened l.opened l.tracees l.filled
