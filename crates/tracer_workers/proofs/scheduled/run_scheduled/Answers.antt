-- Turns and rounds take the run to its end, which prints the text of the case.
use Rattle.std.proofs.Common.{◌≤◌, ◌∙◌, [], sym, ap, subst}
use Rattle.stop_history.specs.declared.limits.TheConstants.{TRACERS}
use Rattle.tracer_workers.specs.Config.{text_of}
use Rattle.tracer_workers.specs.declared.config.Config.{Config}
use Rattle.tracer_workers.proofs.scheduled.run_scheduled.Goals as goal

pub loop-actor-init : goal.loop-actor-init
loop-actor-init g c = record {
  config = c.in_ok-run.ensures.config;
  stands = ([], c.in_ok-run.ensures.stands);
}

pub turn-requires-clause-workers : goal.turn-requires-clause-workers
turn-requires-clause-workers g c =
    subst (λ (k : Config). k.workers ≤ TRACERS) (sym c.loop-actor.invariant.config) c.requires.1

pub turn-requires-clause-stands : goal.turn-requires-clause-stands
turn-requires-clause-stands g c =
    (c.args.case.now, c.loop-actor.invariant.stands.0, c.loop-actor.invariant.stands.1)

pub loop-actor-preserved : goal.loop-actor-preserved
loop-actor-preserved g c = record {
  config = c.turn.ensures.config ∙ c.loop-actor.invariant.config;
  stands = c.in_ok-turn.ensures.gone c.args.case.now c.loop-actor.invariant.stands.0 c.loop-actor.invariant.stands.1;
}

pub rounds-requires : goal.rounds-requires
rounds-requires g c = (c.args.case.now, c.loop-actor.invariant.stands.0, c.loop-actor.invariant.stands.1)

pub finish-requires : goal.finish-requires
finish-requires g c =
    let over = c.in_ok-rounds.ensures.over c.args.case.now c.loop-actor.invariant.stands.0 c.loop-actor.invariant.stands.1 in
    (c.args.case.now, over.0, over.1, over.2)

pub returns-clause-text : goal.returns-clause-text
returns-clause-text g c =
    let over = c.in_ok-rounds.ensures.over c.args.case.now c.loop-actor.invariant.stands.0 c.loop-actor.invariant.stands.1 in
    c.in_ok-finish.ensures c.args.case.now over.0 over.1 over.2
    ∙ ap (λ (k : Config). text_of k c.args.case.now) (c.rounds.ensures.config ∙ c.loop-actor.invariant.config)
    ∙ c.the_mode_changes_no_text.ensures c.args.config.now c.args.case.now
