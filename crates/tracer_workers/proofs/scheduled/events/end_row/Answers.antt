-- The World has answered.
use Rattle.std.proofs.Common.{refl}
use Rattle.tracer_workers.proofs.scheduled.events.end_row.Goals as goal

pub returns-then-not-exit-clause-held : goal.returns-then-not-exit-clause-held
returns-then-not-exit-clause-held g c h came stays =
    let held = c.exit.ensures.held h came c.if-not-exit.true in (held.0, held.1, refl)
