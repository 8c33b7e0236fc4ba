-- The word is in range: its status is a fork's.
use Rattle.std.proofs.Common.{arith}
use Rattle.trace_record.specs.declared.stop.Stop.TheVariants as stop
use Rattle.stop_history.proofs.Words.{stop_reported}
use Rattle.stop_board.proofs.tests.expected_words.stopped_at_fork.Goals as goal

pub invariant_of-result : goal.invariant_of-result
invariant_of-result c =
    record { of_phase = stop_reported (stop.Fork 0) tt; few = omega arith; last = omega arith; fresh = λ is. cc }
