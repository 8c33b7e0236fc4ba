-- A block of `Global` names no thread, so any thread may give it back, whatever handle stands before `Global`.
use Rattle.std.proofs.Crossing.{frees}
use Rattle.system_tests.proofs.workers.family.refused_in.Goals as goal

pub served-requires-frees-A-Allocator : goal.served-requires-frees-A-Allocator
served-requires-frees-A-Allocator g c κs le = record { frees = λ a τ p. frees.frees a.now.inner τ p }
