-- The run stands, and is over where no event came of the last round. Each round leaves fewer events.
use Rattle.std.proofs.Common.{◌≡◌, List}
use Rattle.stop_table.specs.Entry.{Entry}
use Rattle.trace_script.specs.CaseFile.{CaseContent}
use Rattle.tracer_workers.specs.Scheduled.{Stands}
use Rattle.tracer_workers.proofs.Rounds.{AreGone, rounds_left}
use Rattle.tracer_workers.proofs.scheduled.run.Run.rounds.Given as goal

abbrev pub invariant-loop-moved : goal.invariant-loop-moved
invariant-loop-moved g l = record {
  config : l.self.config ≡ l.fn.self.config;
  gone : (content : CaseContent) (h : List Entry) → Stands content l.fn.self h
      → (later : List Entry) × AreGone content l.self l.moved later;
}

abbrev pub decreases-loop-moved : goal.decreases-loop-moved
decreases-loop-moved g l = rounds_left l.self l.moved
