-- The program ends as its run does.
use Rattle.std.proofs.Common.{refl, Err, Ok}
use Rattle.tracer_cli.proofs.CommandLines.{explore_answered, replay_answered, run_answered, status_said}
use Rattle.tracer_cli.proofs.entry.program.Goals as goal

pub returns-in-Ok-clause-asked : goal.returns-in-Ok-clause-asked
returns-in-Ok-clause-asked g c = (Ok c.in-Ok.field-0, (c.in-Ok.ensures.asked, c.in-Ok.ensures.unwritten), refl, refl)

pub returns-in-Ok-clause-words : goal.returns-in-Ok-clause-words
returns-in-Ok-clause-words g c = status_said _ _ _ _ _ _ c.in-Ok.ensures.asked refl

pub returns-in-Ok-clause-replay : goal.returns-in-Ok-clause-replay
returns-in-Ok-clause-replay g c = replay_answered _ _ _ _ _ _ _ _ c.in-Ok.ensures.asked refl refl

pub returns-in-Ok-clause-run : goal.returns-in-Ok-clause-run
returns-in-Ok-clause-run g c = run_answered _ _ _ _ _ _ _ _ c.in-Ok.ensures.asked refl refl

pub returns-in-Ok-clause-explore : goal.returns-in-Ok-clause-explore
returns-in-Ok-clause-explore g c = explore_answered _ _ _ _ _ _ _ _ c.in-Ok.ensures.asked refl refl

pub returns-in-Err-clause-asked : goal.returns-in-Err-clause-asked
returns-in-Err-clause-asked g c = (
  Err c.in-Err.failure,
  (c.in-Err.ensures.asked, c.in-Err.ensures.unwritten),
  c.fail.ensures.begun,
  c.fail.ensures.status,
)

pub returns-in-Err-clause-words : goal.returns-in-Err-clause-words
returns-in-Err-clause-words g c = status_said _ _ _ _ _ _ c.in-Err.ensures.asked c.fail.ensures.status

pub returns-in-Err-clause-replay : goal.returns-in-Err-clause-replay
returns-in-Err-clause-replay g c =
    replay_answered _ _ _ _ _ _ _ _ c.in-Err.ensures.asked c.fail.ensures.begun c.fail.ensures.status

pub returns-in-Err-clause-run : goal.returns-in-Err-clause-run
returns-in-Err-clause-run g c =
    run_answered _ _ _ _ _ _ _ _ c.in-Err.ensures.asked c.fail.ensures.begun c.fail.ensures.status

pub returns-in-Err-clause-explore : goal.returns-in-Err-clause-explore
returns-in-Err-clause-explore g c =
    explore_answered _ _ _ _ _ _ _ _ c.in-Err.ensures.asked c.fail.ensures.begun c.fail.ensures.status
