-- A round takes the run on, or ends it.
use Rattle.std.proofs.Common.{◌∙◌}
use Rattle.tracer_workers.proofs.Rounds.{gone_on, gone_stands}
use Rattle.tracer_workers.proofs.scheduled.run.Run.rounds.Goals as goal

pub loop-moved-preserved : goal.loop-moved-preserved
loop-moved-preserved g c = record {
  config = c.round.ensures.config ∙ c.loop-moved.invariant.config;
  gone = λ content h stands.
      let now = c.loop-moved.invariant.gone content h stands in
      gone_on content c.loop-moved.self c.round.new.self now.0 c.in_ok-moved.moved
      (c.in_ok-moved.ensures.gone content now.0
      (gone_stands content c.loop-moved.self c.loop-moved.moved now.0 now.1));
}
