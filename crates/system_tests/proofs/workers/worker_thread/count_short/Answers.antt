-- A block of `Global` names no thread, so any thread may give it back, whatever handle stands before `Global`.
use Rattle.std.proofs.Crossing.{frees}
use Rattle.system_tests.proofs.workers.worker_thread.count_short.Goals as goal

pub outcome_of-requires-frees-A-Allocator : goal.outcome_of-requires-frees-A-Allocator
outcome_of-requires-frees-A-Allocator g c κs le = record { frees = λ a τ p. frees.frees a.now.inner τ p }
