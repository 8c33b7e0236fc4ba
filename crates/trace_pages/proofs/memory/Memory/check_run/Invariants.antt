-- The run so far is mapped, and what is left decides the answer.
use Rattle.std.proofs.Common.{◌≡◌, ◌<◌, ◌^◌}
use Rattle.trace_pages.specs.FlatMemory.{run_end}
use Rattle.trace_pages.proofs.memory.Memory.check_run.Given as goal

abbrev pub invariant-loop-left : goal.invariant-loop-left
invariant-loop-left g l = record {
  same : run_end l.self l.fn.addr l.fn.len ≡ run_end l.self l.at l.left;
  fits : l.at < 2 ^ 64;
}

abbrev pub decreases-loop-left : goal.decreases-loop-left
decreases-loop-left g l = l.left
