-- Nothing has happened, and each row is a new one.
use Rattle.std.proofs.Common.{◌∙◌, refl}
use Rattle.stop_board.specs.World.{first_moment}
use Rattle.tracer_workers.specs.Scheduled.{RunState}
use Rattle.tracer_workers.proofs.Rounds.{opening_stands}
use Rattle.tracer_workers.proofs.scheduled.run.Run.new.Goals as goal

pub returns-clause-stands : goal.returns-clause-stands
returns-clause-stands g c =
    let run : RunState = record {
      config = c.args.config.now;
      world = c.in_ok-world.world;
      folder = c.in_ok-folder.folder;
      rows = c.in_ok-rows.rows.items;
    } in
    opening_stands c.args.case.now run c.roster.ensures.case
    (record {
      moment = first_moment;
      stands = c.in_ok-world.ensures.stands;
      history = refl;
      tracers = c.in_ok-world.ensures.tracers;
    })
    (c.in_ok-world.ensures.rows ∙ c.roster.ensures.rows) c.in_ok-folder.ensures.empty
    (c.in_ok-folder.ensures.rows ∙ c.roster-2.ensures.rows) c.in_ok-rows.ensures.long c.in_ok-rows.ensures.each
