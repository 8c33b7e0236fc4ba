-- The word is in range: exit code 3 is a death's.
use Rattle.std.proofs.Common.{arith}
use Rattle.trace_record.specs.declared.death.Death.TheVariants as death
use Rattle.stop_history.proofs.Words.{death_reported}
use Rattle.stop_board.proofs.tests.expected_words.dead_before_any_stop.Goals as goal

pub invariant_of-result : goal.invariant_of-result
invariant_of-result c =
    record {
      of_phase = death_reported (death.Exited 3)
          (omega arith);
      few = omega arith;
      last = omega arith;
      fresh = λ is. cc;
    }
