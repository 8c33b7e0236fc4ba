-- The World answers as one thread is answered, and adds the exit where there is one.
use Rattle.std.proofs.Common.{◌∙◌, IsErr, refl, sym, ap, subst}
use Rattle.stop_history.specs.Event as event
use Rattle.stop_history.specs.Sequential.{exit_answer}
use Rattle.tracer_workers.proofs.OneThread.{came_back, came_on}
use Rattle.tracer_workers.proofs.one_thread.exit.Goals as goal

pub returns-in-Ok-clause-ended : goal.returns-in-Ok-clause-ended
returns-in-Ok-clause-ended g c h came ends =
    let answer = c.exit.ensures.answer came.moment came.stands
    ∙ ap (λ h. exit_answer c.args.world.now.rows h c.args.row) came.history in (
      sym answer ∙ c.in-Ok.is,
      came_on c.exit.new.self came.moment.history h came.history (λ h. event.Exit c.args.row c.args.death) c.exit.result
          (c.exit.ensures.stands came.moment came.stands) (c.exit.ensures.tracers ∙ came.tracers) c.in-Ok.field-0 c.in-Ok.is,
    )

pub returns-in-Err-clause-held : goal.returns-in-Err-clause-held
returns-in-Err-clause-held g c h came stays =
    let answer = c.exit.ensures.answer came.moment came.stands
    ∙ ap (λ h. exit_answer c.args.world.now.rows h c.args.row) came.history in (
      subst IsErr (sym c.in-Err.is ∙ answer) refl,
      came_back c.exit.new.self came.moment.history h came.history (λ h. event.Exit c.args.row c.args.death) c.exit.result
          (c.exit.ensures.stands came.moment came.stands) (c.exit.ensures.tracers ∙ came.tracers) c.in-Err.field-0 c.in-Err.is,
    )
