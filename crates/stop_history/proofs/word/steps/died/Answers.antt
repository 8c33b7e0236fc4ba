-- The word after an exit is in range.
use Rattle.stop_history.proofs.Words.{death_reported}
use Rattle.stop_history.proofs.word.steps.died.Goals as goal

pub invariant_of-result : goal.invariant_of-result
invariant_of-result c = record {
  of_phase = rw c.status.ensures (death_reported c.args.death c.requires);
  few = c.word.invariant.few;
  last = c.word.invariant.last;
  fresh = λ is. cc;
}
