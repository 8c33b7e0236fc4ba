-- The rows so far have run out.
use Rattle.std.proofs.Common.{◌≡◌, List}
use Rattle.stop_table.specs.Entry.{Entry}
use Rattle.trace_script.specs.CaseFile.{CaseContent}
use Rattle.tracer_workers.specs.Scheduled.{Stands}
use Rattle.tracer_workers.specs.Turn.{HaveRunOut}
use Rattle.tracer_workers.proofs.scheduled.run.Run.round.Given as goal

abbrev pub invariant-loop-row : goal.invariant-loop-row
invariant-loop-row g l = record {
  config : l.self.config ≡ l.fn.self.config;
  out : (content : CaseContent) (h : List Entry) → Stands content l.fn.self h
      → HaveRunOut content l.fn.self l.self h l.row l.moved;
}
