-- The run stands at some history of the case.
use Rattle.std.proofs.Common.{◌≡◌, List}
use Rattle.stop_table.specs.Entry.{Entry}
use Rattle.tracer_workers.specs.Scheduled.{Stands}
use Rattle.tracer_workers.proofs.scheduled.run_scheduled.Given as goal

abbrev pub invariant-loop-actor : goal.invariant-loop-actor
invariant-loop-actor g l = record {
  config : l.run.config ≡ l.fn.config;
  stands : (h : List Entry) × Stands l.fn.case l.run h;
}
