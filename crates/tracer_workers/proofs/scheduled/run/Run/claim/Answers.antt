-- What the world answers tells what waited.
use Rattle.std.proofs.Common.{◌∷◌, ◌∙◌, Ok, refl, sym, ap, subst, arith}
use Rattle.stop_history.specs.declared.actor.Actor.TheVariants.{Tracer}
use Rattle.stop_history.specs.declared.got.Got.TheVariants as got
use Rattle.stop_table.specs.Entry.{history_of}
use Rattle.stop_history.specs.Event as event
use Rattle.stop_history.specs.Sequential.{goes_on}
use Rattle.stop_history.specs.State.{last_number}
use Rattle.tracer_workers.specs.Scheduled.{CameTo, RunState, Stands}
use Rattle.tracer_workers.proofs.Claims.{claim_finds_none, claim_gets}
use Rattle.tracer_workers.proofs.Fewer.{same_left}
use Rattle.tracer_workers.proofs.OneActor.{by_one}
use Rattle.tracer_workers.proofs.Rounds.{moved_by_on, stands_over}
use Rattle.tracer_workers.proofs.RunSteps.{claim_entry}
use Rattle.tracer_workers.proofs.scheduled.run.Run.claim.Goals as goal

pub restart-requires : goal.restart-requires
restart-requires g c =
    let content = c.requires.stands.0 in
    let h = c.requires.stands.1 in
    let stands = subst (λ r. Stands content r h) (sym c.self.view_is) c.requires.stands.2 in
    let new : RunState = record {
      config = c.self.inside.config;
      world = c.claim.new.world;
      folder = c.self.inside.folder;
      rows = c.self.inside.rows.items;
    } in
    let gets = claim_gets content _ new h c.args.row c.args.tracer stands c.requires.stands.3 c.requires.low c.claim.result
    (c.claim.ensures.answer (history_of h) stands.0.world) refl (c.claim.ensures.stands (history_of h) stands.0.world)
    c.claim.ensures.rows refl refl (got.Stop c.in-Ok-Stop.field-0-0 c.in-Ok-Stop.field-0-1)
    (c.in-Ok-Stop.is ∙ ap Ok c.in-Ok-Stop.field-0-is) in
    (content, claim_entry h c.args.row c.args.tracer ∷ h, gets.0)

pub returns-in-Ok-Ended-clause-claimed : goal.returns-in-Ok-Ended-clause-claimed
returns-in-Ok-Ended-clause-claimed g c =
    rw (← c.self.view_is) (λ content h stands within.
    let new : RunState = record {
      config = c.self.inside.config;
      world = c.claim.new.world;
      folder = c.self.inside.folder;
      rows = c.self.inside.rows.items;
    } in
    claim_gets content _ new h c.args.row c.args.tracer stands within c.requires.low c.claim.result
    (c.claim.ensures.answer (history_of h) stands.0.world) refl (c.claim.ensures.stands (history_of h) stands.0.world)
    c.claim.ensures.rows refl refl (got.Ended c.in-Ok-Ended.field-0-0 c.in-Ok-Ended.field-0-1)
    (c.in-Ok-Ended.is ∙ ap Ok c.in-Ok-Ended.field-0-is))

pub returns-in-Ok-Stop-clause-claimed : goal.returns-in-Ok-Stop-clause-claimed
returns-in-Ok-Stop-clause-claimed g c =
    rw (← c.self.view_is) (λ content h stands within.
    let run : RunState = record {
      config = c.self.inside.config;
      world = c.self.inside.world;
      folder = c.self.inside.folder;
      rows = c.self.inside.rows.items;
    } in
    let mid : RunState = record run { world = c.claim.new.world } in
    let gets = claim_gets content run mid h c.args.row c.args.tracer stands within c.requires.low c.claim.result
    (c.claim.ensures.answer (history_of h) stands.0.world) refl (c.claim.ensures.stands (history_of h) stands.0.world)
    c.claim.ensures.rows refl refl (got.Stop c.in-Ok-Stop.field-0-0 c.in-Ok-Stop.field-0-1)
    (c.in-Ok-Stop.is ∙ ap Ok c.in-Ok-Stop.field-0-is) in
    let later = claim_entry h c.args.row c.args.tracer ∷ h in
    let less = gets.1 in
    moved_by_on (Tracer c.args.tracer) content run mid c.restart.new.self h later (omega (arith, less))
    (by_one (Tracer c.args.tracer) (claim_entry h c.args.row c.args.tracer) h refl)
    (c.restart.ensures.restarted content later gets.0))

pub returns-in-Err-clause-claimed : goal.returns-in-Err-clause-claimed
returns-in-Err-clause-claimed g c =
    rw (← c.self.view_is) (λ content h stands within.
    let run : RunState = record {
      config = c.self.inside.config;
      world = c.self.inside.world;
      folder = c.self.inside.folder;
      rows = c.self.inside.rows.items;
    } in
    let new : RunState = record run { world = c.claim.new.world } in
    let came : CameTo c.claim.new.world (history_of h) =
    subst (λ r. CameTo c.claim.new.world
    (goes_on r (event.Claim c.args.row (last_number (history_of h) c.args.row) c.args.tracer) (history_of h))) c.in-Err.is
    (c.claim.ensures.stands (history_of h) stands.0.world) in (
      stands_over content run c.claim.new.world h stands came c.claim.ensures.rows,
      same_left run new (history_of h) stands.0.world came c.claim.ensures.rows,
      claim_finds_none content run new h c.args.row c.args.tracer stands within c.requires.low c.claim.result
          (c.claim.ensures.answer (history_of h) stands.0.world) c.in-Err.field-0 c.in-Err.is,
    ))
