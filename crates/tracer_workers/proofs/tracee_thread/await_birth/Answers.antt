-- Each look only looked.
use Rattle.tracer_workers.proofs.TraceeThreads.{looked_again}
use Rattle.tracer_workers.proofs.tracee_thread.await_birth.Goals as goal

pub returns-in-Born-clause-handle : goal.returns-in-Born-clause-handle
returns-in-Born-clause-handle g c =
    looked_again c.args.tracee.now c.loop.tracee c.start.new.self c.loop.invariant.2 c.start.ensures.handle

pub returns-in-Never-clause-handle : goal.returns-in-Never-clause-handle
returns-in-Never-clause-handle g c =
    looked_again c.args.tracee.now c.loop.tracee c.start.new.self c.loop.invariant.2 c.start.ensures.handle

pub loop-preserved : goal.loop-preserved
loop-preserved g c =
    (tt, tt, looked_again c.args.tracee.now c.loop.tracee c.start.new.self c.loop.invariant.2 c.start.ensures.handle)
