-- Nothing waits in the rows so far, and no event has come.
use Rattle.std.proofs.Common.{◌≡◌, ◌<◌, ℕ, List, false}
use Rattle.stop_history.specs.State.{is_waitable, state_after}
use Rattle.stop_table.specs.Entry.{Entry, history_of}
use Rattle.trace_script.specs.CaseFile.{CaseContent}
use Rattle.tracer_workers.specs.Scheduled.{Stands, run_left}
use Rattle.tracer_workers.proofs.scheduled.run.Run.worker_turn.Given as goal

abbrev pub invariant-loop-row : goal.invariant-loop-row
invariant-loop-row g l = record {
  config : l.self.config ≡ l.fn.self.config;
  quiet : (content : CaseContent) (h : List Entry) → Stands content l.fn.self h → Stands content l.self h
      × (run_left l.self ≡ run_left l.fn.self)
      × ((r : ℕ) → r < l.row → is_waitable (state_after content.rows (history_of h) r) ≡ false);
}
