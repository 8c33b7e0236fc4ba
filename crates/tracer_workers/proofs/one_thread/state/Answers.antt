-- A World that has come to a history stands at a moment with it.
use Rattle.std.proofs.Common.{◌∙◌, ap}
use Rattle.stop_history.specs.State.{state_after}
use Rattle.tracer_workers.proofs.one_thread.state.Goals as goal

pub returns : goal.returns
returns g c h came = c.state.ensures came.moment came.stands ∙ ap (λ g. state_after c.args.world.now.rows g c.args.row) came.history
