-- The rows so far are new ones.
use Rattle.std.proofs.Common.{◌≡◌, ℕ, Some, length, slice_get}
use Rattle.tracer_workers.specs.Scheduled.{KeptRow}
use Rattle.tracer_workers.specs.Turn.{new_row}
use Rattle.tracer_workers.proofs.scheduled.traced_row.new_rows.Given as goal

abbrev pub invariant-loop-row : goal.invariant-loop-row
invariant-loop-row g l = record {
  long : length l.rows.items ≡ l.row;
  each : (r : ℕ) (k : KeptRow) → slice_get l.rows.items r ≡ Some k → k ≡ new_row l.fn.config l.fn.case r;
}
