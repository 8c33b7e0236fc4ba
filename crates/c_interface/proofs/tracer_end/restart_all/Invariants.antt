-- The rows before this one are not claimed.
use Rattle.std.proofs.Common.{◌≡◌, ◌<◌, ℕ, false, length}
use Rattle.stop_table.specs.Tracer.{IsTracerHandle, is_held}
use Rattle.trace_calls.specs.Handle.{tracer_of}
use Rattle.c_interface.proofs.tracer_end.restart_all.Given as goal

abbrev pub invariant-loop-row : goal.invariant-loop-row
invariant-loop-row l = record {
  handle : IsTracerHandle (tracer_of l.calls);
  rows : length l.calls.view.roster ≡ length l.initial.calls.view.roster;
  freed : (k : ℕ) → k < l.row → is_held l.calls.view k ≡ false;
}
