-- No row so far acts any more.
use Rattle.std.proofs.Common.{◌≡◌, ◌<◌, ℕ, true}
use Rattle.stop_history.specs.Over.{IsOver}
use Rattle.stop_table.specs.Entry.{history_of}
use Rattle.stop_table.specs.Handle.{Looked}
use Rattle.tracer_workers.proofs.gathering.are_reaped.Given as goal

abbrev pub invariant-loop-row : goal.invariant-loop-row
invariant-loop-row g l = record {
  table : l.tracer.table_id ≡ l.fn.tracer.table_id;
  looked : Looked l.fn.tracer.view l.tracer.view;
  over : (row : ℕ) → row < l.row → IsOver l.fn.tracer.view.roster true (history_of l.tracer.view.seen) row;
}
