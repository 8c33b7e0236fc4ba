-- The run stands, and has gone on where an event came of a pair of turns. Each such pair leaves fewer events.
use Rattle.std.proofs.Common.{◌≡◌, ◌<◌, List, length}
use Rattle.stop_table.specs.Entry.{Entry}
use Rattle.trace_script.specs.CaseFile.{CaseContent}
use Rattle.tracer_workers.specs.Scheduled.{Stands, run_left}
use Rattle.tracer_workers.proofs.Rounds.{IsRunning}
use Rattle.tracer_workers.proofs.scheduled.run.Run.run_out.Given as goal

abbrev pub invariant-pairs : goal.invariant-pairs
invariant-pairs g l = record {
  config : l.self.config ≡ l.fn.self.config;
  running : (content : CaseContent) (h : List Entry) → Stands content l.fn.self h → l.fn.row < length content.rows
      → IsRunning content l.fn.self l.self h l.moved;
}

abbrev pub decreases-pairs : goal.decreases-pairs
decreases-pairs g l = run_left l.self
