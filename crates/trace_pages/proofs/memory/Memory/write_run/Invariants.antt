-- The bytes so far are stored, and the rest of the run is mapped.
use Rattle.std.proofs.Common.{◌≡◌, ◌≤◌, ◌-◌, ℕ, length, take}
use Rattle.trace_pages.specs.FlatMemory.{byte_after_store, byte_at}
use Rattle.trace_pages.proofs.memory.Memory.write_run.Given as goal

abbrev pub invariant-loop-done : goal.invariant-loop-done
invariant-loop-done g l = record {
  within : l.done ≤ length l.bytes;
  written : (a : ℕ) → byte_at l.self a ≡ byte_after_store l.initial.self l.addr (take l.done l.bytes) a;
}

abbrev pub decreases-loop-done : goal.decreases-loop-done
decreases-loop-done g l = length l.bytes - l.done
