-- The word after a publish is in range.
use Rattle.std.proofs.Common.{arith}
use Rattle.stop_history.proofs.Words.{stop_reported}
use Rattle.stop_history.proofs.word.steps.published.Goals as goal

pub invariant_of-result : goal.invariant_of-result
invariant_of-result c = record {
  of_phase = rw c.status.ensures (stop_reported c.args.stop c.requires.stop);
  few = c.births_with.ensures.few;
  last = let next = rw (← c.word.view_is) at c.requires.next in omega arith;
  fresh = λ is. cc;
}
