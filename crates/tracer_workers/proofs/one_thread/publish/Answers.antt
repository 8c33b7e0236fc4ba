-- The World answers as one thread is answered, and adds the publish.
use Rattle.std.proofs.Common.{◌+◌, ◌∙◌, sym, ap}
use Rattle.stop_history.specs.Event as event
use Rattle.stop_history.specs.Sequential.{publish_answer}
use Rattle.stop_history.specs.State.{last_number}
use Rattle.tracer_workers.proofs.OneThread.{came_on}
use Rattle.tracer_workers.proofs.one_thread.publish.Goals as goal

pub unreachable-requires : goal.unreachable-requires
unreachable-requires g c =
    let came = c.requires.answer.1 in
    let clash = sym c.in_default.is
    ∙ c.publish.ensures.answer came.moment came.stands
    ∙ ap (λ h. publish_answer c.args.world.now.rows h c.args.row c.args.stop) came.history
    ∙ c.requires.answer.2 in
    cc

pub returns-clause-number : goal.returns-clause-number
returns-clause-number g c h came answer =
    let is = sym c.in-Ok.is
    ∙ c.publish.ensures.answer came.moment came.stands
    ∙ ap (λ h. publish_answer c.args.world.now.rows h c.args.row c.args.stop) came.history
    ∙ answer in
    cc

pub returns-clause-stands : goal.returns-clause-stands
returns-clause-stands g c h came answer =
    came_on c.publish.new.self came.moment.history h came.history
    (λ h. event.Publish c.args.row (last_number h c.args.row + 1) c.args.stop) c.publish.result
    (c.publish.ensures.stands came.moment came.stands) (c.publish.ensures.tracers ∙ came.tracers) c.in-Ok.number c.in-Ok.is
