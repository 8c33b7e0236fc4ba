-- A World that has come to a history stands at a moment with it.
use Rattle.std.proofs.Common.{◌∙◌, ap}
use Rattle.stop_history.specs.Event as event
use Rattle.stop_history.specs.Sequential.{claim_answer, goes_on}
use Rattle.stop_history.specs.State.{last_number}
use Rattle.tracer_workers.proofs.one_thread.claim.Goals as goal

pub returns-clause-answer : goal.returns-clause-answer
returns-clause-answer g c h came =
    c.claim.ensures.answer came.moment came.stands ∙ ap (λ g. claim_answer c.args.world.now.rows g c.args.row c.args.tracer) came.history

pub returns-clause-stands : goal.returns-clause-stands
returns-clause-stands g c h came =
    let old = c.claim.ensures.stands came.moment came.stands in
    record {
      moment = old.0;
      stands = old.1;
      history = old.2 ∙ ap (λ g. goes_on c.claim.result (event.Claim c.args.row (last_number g c.args.row) c.args.tracer) g) came.history;
      tracers = c.claim.ensures.tracers ∙ came.tracers;
    }
