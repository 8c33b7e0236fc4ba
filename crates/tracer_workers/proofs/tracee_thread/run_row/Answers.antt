-- From stop to stop the machine and the handle go on together, up to the death.
use Rattle.std.proofs.Common.{◌∙◌, subst}
use Rattle.stop_history.specs.Event as event
use Rattle.stop_table.specs.Entry.{bare}
use Rattle.stop_table.specs.Handle.{EndsWith}
use Rattle.stop_table.specs.Tracee.{TraceeHandle}
use Rattle.stop_table.proofs.Walking.{same_trans}
use Rattle.tracer_workers.proofs.TraceeThreads.{ends_driven, has_died, taken_handle, taken_script}
use Rattle.tracer_workers.proofs.tracee_thread.run_row.Goals as goal

pub run_on-requires-clause-script : goal.run_on-requires-clause-script
run_on-requires-clause-script g c =
    let s = c.requires.script in
    let before = c.loop.invariant.2 in
    let handle = c.await_restart-stop.ensures.handle in (
      s.0,
      taken_script c.loop.tracee c.await_restart-stop.new.tracee before.handle handle.1 handle.2 s.0 c.loop.machine
          (before.script s.0 s.1),
    )

pub loop-preserved : goal.loop-preserved
loop-preserved g c =
    let before = c.loop.invariant.2 in
    let up = c.await_restart-stop.ensures.handle in
    let went = c.run_on.ensures.handle in
    let none = c.in_default.ensures.none in
    let same = same_trans c.loop.tracee.view c.await_restart-stop.new.tracee.view c.run_on.new.tracee.view up.2.same went.2 in (
      tt,
      tt,
      record {
        handle = none.0;
        idle = none.1;
        same = (
          went.0 ∙ up.0 ∙ before.same.0,
          went.1 ∙ up.1 ∙ before.same.1,
          same_trans c.args.tracee.now.view c.loop.tracee.view c.run_on.new.tracee.view before.same.2 same,
        );
        script = λ plan on.
            none.2 plan
            (taken_script c.loop.tracee c.await_restart-stop.new.tracee before.handle up.1 up.2 plan c.loop.machine
            (before.script plan on));
      },
    )

pub returns-in-Some-run_on-clause-driven : goal.returns-in-Some-run_on-clause-driven
returns-in-Some-run_on-clause-driven g c = λ plan on.
    let before = c.loop.invariant.2 in
    let up = c.await_restart-stop.ensures.handle in
    let at = c.await_restart-stop.new.tracee in
    let some = c.in-Some-run_on.ensures.some in
    let made = c.end_row.ensures.made in
    let now = taken_script c.loop.tracee at before.handle up.1 up.2 plan c.loop.machine
    (before.script plan on) in
    ends_driven plan at c.end_row.new.tracee c.loop.machine c.await_restart-stop.result.0
    c.await_restart-stop.result.1 made.0 c.in-Some-run_on.death
    (taken_handle c.loop.tracee at before.handle up.1 up.2) c.await_restart-stop.ensures.taken now
    (some.2 plan now)
    (subst (λ (t : TraceeHandle). EndsWith t.view c.end_row.new.tracee.view made.0
    (bare (event.Exit t.row c.in-Some-run_on.death))) some.0 made.1)

pub returns-in-Some-run_on-clause-through : goal.returns-in-Some-run_on-clause-through
returns-in-Some-run_on-clause-through g c =
    let made = c.end_row.ensures.made in
    has_died c.run_on.new.tracee c.end_row.new.tracee made.0 c.in-Some-run_on.death c.end_row.ensures.handle.1 made.1
