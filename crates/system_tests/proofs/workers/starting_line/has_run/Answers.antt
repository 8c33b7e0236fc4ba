-- A block of `Global` names no thread, so any thread may give it back, whatever handle stands before `Global`.
use Rattle.std.proofs.Crossing.{frees}
use Rattle.system_tests.proofs.workers.starting_line.has_run.Goals as goal

pub run_case-requires-frees-A-Allocator : goal.run_case-requires-frees-A-Allocator
run_case-requires-frees-A-Allocator g c κs le = record { frees = λ a τ p. frees.frees a.now.inner τ p }
