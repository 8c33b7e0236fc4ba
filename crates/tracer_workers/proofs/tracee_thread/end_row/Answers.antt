-- The exits that were refused only looked.
use Rattle.std.proofs.Common.{subst}
use Rattle.stop_history.specs.Event as event
use Rattle.stop_table.specs.Entry.{bare}
use Rattle.stop_table.specs.Handle.{EndsWith}
use Rattle.stop_table.proofs.Walking.{ends_from}
use Rattle.tracer_workers.proofs.TraceeThreads.{looked_again}
use Rattle.tracer_workers.proofs.tracee_thread.end_row.Goals as goal

pub returns-in-Ok-clause-made : goal.returns-in-Ok-clause-made
returns-in-Ok-clause-made g c =
    let before = c.loop.invariant.2 in
    let made = c.in-Ok.ensures.ok in (
      made.0,
      subst (λ row. EndsWith c.args.tracee.now.view c.exit.new.self.view made.0 (bare (event.Exit row c.args.death))) before.1
          (ends_from c.args.tracee.now.view c.loop.tracee.view c.exit.new.self.view made.0
          (bare (event.Exit c.loop.tracee.row c.args.death)) before.2 made.1),
    )

pub loop-preserved : goal.loop-preserved
loop-preserved g c =
    let handle = c.exit.ensures.handle in
    let err = c.in-Err.ensures.err in (
      tt,
      tt,
      looked_again c.args.tracee.now c.loop.tracee c.exit.new.self c.loop.invariant.2 (handle.0, handle.1, err.1),
    )
