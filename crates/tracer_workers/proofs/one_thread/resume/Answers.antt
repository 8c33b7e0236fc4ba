-- The World answers as one thread is answered, and adds the resume.
use Rattle.std.proofs.Common.{◌∙◌, sym, ap}
use Rattle.stop_history.specs.Event as event
use Rattle.stop_history.specs.Sequential.{resume_answer}
use Rattle.stop_history.specs.State.{last_number}
use Rattle.tracer_workers.proofs.OneThread.{came_on}
use Rattle.tracer_workers.proofs.one_thread.resume.Goals as goal

pub unreachable-requires : goal.unreachable-requires
unreachable-requires g c =
    let came = c.requires.answer.1 in
    let clash = sym c.in_default.is
    ∙ c.resume.ensures.answer came.moment came.stands
    ∙ ap (λ h. resume_answer c.args.world.now.rows h c.args.row c.args.tracer) came.history
    ∙ c.requires.answer.2 in
    cc

pub returns-clause-stands : goal.returns-clause-stands
returns-clause-stands g c h came answer =
    came_on c.resume.new.self came.moment.history h came.history
    (λ h. event.Resume c.args.row (last_number h c.args.row) c.args.how c.args.tracer) c.resume.result
    (c.resume.ensures.stands came.moment came.stands) (c.resume.ensures.tracers ∙ came.tracers) c.in-Ok.field-0 c.in-Ok.is
