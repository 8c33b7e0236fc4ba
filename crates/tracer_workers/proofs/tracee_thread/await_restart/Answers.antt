-- The looks that found nothing only looked.
use Rattle.std.proofs.Common.{◌∙◌}
use Rattle.stop_table.proofs.Walking.{grows_on}
use Rattle.tracer_workers.proofs.TraceeThreads.{looked_again}
use Rattle.tracer_workers.proofs.tracee_thread.await_restart.Goals as goal

pub returns-in-Some-take_up-clause-handle : goal.returns-in-Some-take_up-clause-handle
returns-in-Some-take_up-clause-handle g c =
    let before = c.loop.invariant.2 in
    let handle = c.take_up.ensures.handle in
    let taken = c.in-Some-take_up.ensures.some in (
      handle.0 ∙ before.0,
      handle.1 ∙ before.1,
      grows_on c.args.tracee.now.view c.loop.tracee.view c.take_up.new.self.view before.2.grows taken.0.grows,
    )

pub loop-preserved : goal.loop-preserved
loop-preserved g c =
    let handle = c.take_up.ensures.handle in
    let none = c.in_default.ensures.none (c.loop.invariant.2.2.taken ∙ c.requires.1) in (
      tt,
      tt,
      looked_again c.args.tracee.now c.loop.tracee c.take_up.new.self c.loop.invariant.2 (handle.0, handle.1, none.1.0),
    )
