-- The bytes so far are those of the memory.
use Rattle.std.proofs.Common.{◌≡◌, ◌+◌, ◌<◌, ◌≤◌, ◌^◌, ℕ, Some, get_or, length}
use Rattle.trace_pages.specs.FlatMemory.{byte_at}
use Rattle.trace_calls.proofs.by_pid.word_at.Given as goal

abbrev pub invariant-loop-k : goal.invariant-loop-k
invariant-loop-k g l =
    (length l.bytes ≡ 8) × (l.addr + l.k ≤ 2 ^ 64)
    × ((j : ℕ) → j < l.k → byte_at l.memory (l.addr + j) ≡ Some (get_or l.bytes j 0))
