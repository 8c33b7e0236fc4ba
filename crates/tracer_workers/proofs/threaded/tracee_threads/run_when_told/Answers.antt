-- A tracee is left as it was, or it has run.
use Rattle.tracer_workers.proofs.Threads.{left_alone}
use Rattle.tracer_workers.proofs.threaded.tracee_threads.run_when_told.Goals as goal

pub returns-then-not-wait_for_go : goal.returns-then-not-wait_for_go
returns-then-not-wait_for_go g c = left_alone c.args.scripted.tracee c.args.scripted.machine c.requires

pub returns : goal.returns
returns g c = record {
  same = c.run_tracee.ensures.handle.0;
  idle = c.run_tracee.ensures.handle.1;
  driven = c.run_tracee.ensures.driven;
}
