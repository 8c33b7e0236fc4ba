-- A block of `Global` names no thread, so any thread may give it back, whatever handle stands before `Global`.
use Rattle.std.proofs.Crossing.{frees}
use Rattle.refusing_allocator.proofs.tests.threads_can_share_it.Goals as goal

pub first_of_shared-requires-frees-A-Allocator : goal.first_of_shared-requires-frees-A-Allocator
first_of_shared-requires-frees-A-Allocator g c κs = record { frees = λ a τ p. frees.frees a.now.inner τ p }

pub first_of_shared-requires-2-frees-A-Allocator : goal.first_of_shared-requires-2-frees-A-Allocator
first_of_shared-requires-2-frees-A-Allocator g c κs = record { frees = λ a τ p. frees.frees a.now.inner τ p }
