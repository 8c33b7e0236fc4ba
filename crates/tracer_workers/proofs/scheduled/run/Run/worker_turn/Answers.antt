-- A row in which something waits ends the turn; of the others no event comes.
use Rattle.std.proofs.Common.{◌≡◌, ◌∙◌, refl, sym, ap, subst, arith, length, inl, inr, false}
use Rattle.std.proofs.lemmas.Bool.{cases_eq}
use Rattle.stop_history.specs.declared.actor.Actor.TheVariants.{Tracer}
use Rattle.stop_history.specs.State.{is_waitable, state_after}
use Rattle.stop_table.specs.Entry.{history_of}
use Rattle.tracer_workers.specs.Scheduled.{RunState}
use Rattle.tracer_workers.specs.Turn.{HasServedRow}
use Rattle.tracer_workers.proofs.Rounds.{moved_by_from}
use Rattle.tracer_workers.proofs.scheduled.run.Run.worker_turn.Goals as goal

pub loop-row-init : goal.loop-row-init
loop-row-init g c = record {
  config = refl;
  quiet = λ content h stands. (stands, refl, λ r less. absurd (omega (arith, less)));
}

pub claim-requires-clause-stands : goal.claim-requires-clause-stands
claim-requires-clause-stands g c =
    let content = c.requires.stands.0 in
    let h = c.requires.stands.1 in
    let stands = c.requires.stands.2 in
    let view = ap (λ (r : RunState). length r.rows) c.self.view_is in
    let long = stands.0.long in (
      content,
      h,
      (c.loop-row.invariant.quiet content h stands).0,
      omega (arith, c.loop-row-test.true, c.len-row-end.ensures, view, long),
    )

pub returns-then-claim-clause-worked : goal.returns-then-claim-clause-worked
returns-then-claim-clause-worked g c content h stands =
    let view = ap (λ (r : RunState). length r.rows) c.self.view_is in
    let long = stands.0.long in
    let now = c.loop-row.invariant.quiet content h stands in
    let claimed = c.claim.ensures.claimed content h now.0
    (omega (arith, c.loop-row-test.true, c.len-row-end.ensures, view, long)) in
    moved_by_from (Tracer c.args.tracer) content c.args.self.now c.loop-row.self c.claim.new.self h now.1
    (subst (HasServedRow content c.loop-row.self c.claim.new.self h c.loop-row.row c.args.tracer)
    c.if-claim.true claimed)

pub returns-then-claim-clause-config : goal.returns-then-claim-clause-config
returns-then-claim-clause-config g c = c.claim.ensures.config ∙ c.loop-row.invariant.config

pub loop-row-preserved : goal.loop-row-preserved
loop-row-preserved g c = record {
  config = c.claim.ensures.config ∙ c.loop-row.invariant.config;
  quiet = λ content h stands.
      let view = ap (λ (r : RunState). length r.rows) c.self.view_is in
      let long = stands.0.long in
      let now = c.loop-row.invariant.quiet content h stands in
      let claimed : HasServedRow content c.loop-row.self c.claim.new.self h c.loop-row.row c.args.tracer false =
      subst (HasServedRow content c.loop-row.self c.claim.new.self h c.loop-row.row c.args.tracer) c.if-claim.false
      (c.claim.ensures.claimed content h now.0
      (omega (arith, c.loop-row-test.true, c.len-row-end.ensures, view, long))) in (
        claimed.0,
        claimed.1 ∙ now.1,
        λ r less.
            elim (cases_eq r c.loop-row.row) [
              | inl same ↦
                  subst (λ n. is_waitable (state_after content.rows (history_of h) n) ≡ false) (sym same) claimed.2
              | inr other ↦ now.2 r (omega (arith, less, other))
            ],
      );
}

pub returns-clause-worked : goal.returns-clause-worked
returns-clause-worked g c content h stands =
    let view = ap (λ (r : RunState). length r.rows) c.self.view_is in
    let long = stands.0.long in
    let now = c.loop-row.invariant.quiet content h stands in (
      now.0,
      now.1,
      λ row within. now.2 row (omega (arith, within, c.loop-row-test.false, c.len-row-end.ensures, view, long)),
    )

pub returns-clause-config : goal.returns-clause-config
returns-clause-config g c = c.loop-row.invariant.config
