-- The bytes so far begin the run.
use Rattle.std.proofs.Common.{◌<◌, ◌-◌, ◌^◌, length}
use Rattle.trace_pages.proofs.Buffers.{IsRead}
use Rattle.trace_pages.proofs.memory.Memory.read.Given as goal

abbrev pub invariant-loop-done : goal.invariant-loop-done
invariant-loop-done g l = IsRead l.self l.addr l.fn.to l.done l.at l.to × (l.at < 2 ^ 64)

abbrev pub decreases-loop-done : goal.decreases-loop-done
decreases-loop-done g l = length l.fn.to - l.done
