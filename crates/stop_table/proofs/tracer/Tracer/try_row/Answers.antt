-- An attempt to claim a row, by what a look shows.
use Rattle.std.proofs.Common.{◌≡◌, ◌∙◌, ◌<◌, ap, length, refl, subst, sym, true}
use Rattle.std.specs.Arc.{arc_value}
use Rattle.stop_history.specs.declared.phase.Phase.TheVariants as phase
use Rattle.stop_history.specs.Roster.{IsRoster}
use Rattle.stop_history.specs.Word.{Word, shown}
use Rattle.stop_table.specs.declared.shown.Shown.TheVariants as shows
use Rattle.stop_table.specs.Claiming.{GetsNothing, IsTaken, IsTakenOrLost}
use Rattle.stop_table.specs.Handle.{TriesOnce, is_claimable, shown_of}
use Rattle.stop_table.specs.Tracer.{TracerHandle}
use Rattle.stop_table.proofs.Answering.{born_after, claimable_stop, last_look, not_born, nothing_there, taken_from}
use Rattle.stop_table.proofs.Counting.{looked_at_parent, looked_down, then_exchanges, tries_by_looks}
use Rattle.stop_table.proofs.Tracers.{tracer_looked, tracer_looked_twice}
use Rattle.stop_table.proofs.Walking.{idle_word, looked_on, one_look}
use Rattle.stop_table.proofs.tracer.Tracer.try_row.Goals as goal

pub invariant_of-self : goal.invariant_of-self
invariant_of-self g c =
    let x = c.self.inside in
    let key = (arc_value x.cells).table.shared.key in
    let e = c.sees_born.ensures.seat in (
      e.0.0 ∙ c.self.invariant.0,
      tracer_looked key x.seat.me c.sees_born.new.seat.me x.number x.held c.self.invariant.1 e.2 e.1,
    )

pub returns-then-not-sees_born-clause-taken : goal.returns-then-not-sees_born-clause-taken
returns-then-not-sees_born-clause-taken g c =
    let x = c.self.inside in
    let s = c.if-not-sees_born.ensures in (
      subst (λ (h : TracerHandle). GetsNothing h.view c.sees_born.new.seat.me.0 c.args.row shows.Unborn) c.self.view_is
          (not_born x.seat.me.0 c.sees_born.new.seat.me.0 c.args.row s.seat.2 s.once s.born),
      refl,
    )

pub invariant_of-self-then-not-is_claimable : goal.invariant_of-self-then-not-is_claimable
invariant_of-self-then-not-is_claimable g c =
    let x = c.self.inside in
    let key = (arc_value x.cells).table.shared.key in
    let e = c.sees_born.ensures.seat in (
      c.see_bits-seen.ensures.0.0 ∙ e.0.0 ∙ c.self.invariant.0,
      tracer_looked_twice key x.seat.me c.sees_born.new.seat.me c.see_bits-seen.new.seat.me x.number c.args.row c.see_bits-seen.result
          x.held c.self.invariant.1 e.2 e.1 c.see_bits-seen.ensures.1,
    )

pub invariant_of-self-in-Dead : goal.invariant_of-self-in-Dead
invariant_of-self-in-Dead g c =
    let x = c.self.inside in
    let key = (arc_value x.cells).table.shared.key in
    let e = c.sees_born.ensures.seat in (
      c.see_bits-seen.ensures.0.0 ∙ e.0.0 ∙ c.self.invariant.0,
      tracer_looked_twice key x.seat.me c.sees_born.new.seat.me c.see_bits-seen.new.seat.me x.number c.args.row c.see_bits-seen.result
          x.held c.self.invariant.1 e.2 e.1 c.see_bits-seen.ensures.1,
    )

pub invariant_of-self-in_default : goal.invariant_of-self-in_default
invariant_of-self-in_default g c =
    let x = c.self.inside in
    let key = (arc_value x.cells).table.shared.key in
    let e = c.sees_born.ensures.seat in (
      c.see_bits-seen.ensures.0.0 ∙ e.0.0 ∙ c.self.invariant.0,
      tracer_looked_twice key x.seat.me c.sees_born.new.seat.me c.see_bits-seen.new.seat.me x.number c.args.row c.see_bits-seen.result
          x.held c.self.invariant.1 e.2 e.1 c.see_bits-seen.ensures.1,
    )

pub returns-then-not-is_claimable-clause-taken : goal.returns-then-not-is_claimable-clause-taken
returns-then-not-is_claimable-clause-taken g c =
    let x = c.self.inside in
    let s = c.if-not-sees_born.ensures in
    let there = subst (λ (h : TracerHandle). c.args.row < length h.view.roster) (sym c.self.view_is) c.requires in (
      subst (λ (h : TracerHandle). GetsNothing h.view c.see_bits-seen.new.seat.me.0 c.args.row c.show-shown.result)
          c.self.view_is
          (nothing_there x.seat.me.0 c.sees_born.new.seat.me c.see_bits-seen.new.seat.me c.args.row c.see_bits-seen.result
          c.show-shown.result there s.seat.2 s.once s.born c.see_bits-seen.ensures.1
          (sym (c.show-shown.ensures ∙ ap (λ (w : Word). shown_of (shown true w.number w.phase)) c.seen.view_is))),
      sym c.is_claimable.ensures ∙ c.if-not-is_claimable.true,
    )

pub reap_seen-requires-clause-born : goal.reap_seen-requires-clause-born
reap_seen-requires-clause-born g c =
    let x = c.self.inside in
    let s = c.if-not-sees_born.ensures in
    let born = born_after x.seat.me.0 c.sees_born.new.seat.me c.see_bits-seen.new.seat.me c.args.row c.see_bits-seen.result s.seat.2
    c.see_bits-seen.ensures.1 s.born in
    born

pub claim_seen-requires : goal.claim_seen-requires
claim_seen-requires g c =
    let x = c.self.inside in
    let s = c.if-not-sees_born.ensures in
    let born = born_after x.seat.me.0 c.sees_born.new.seat.me c.see_bits-seen.new.seat.me c.args.row c.see_bits-seen.result s.seat.2
    c.see_bits-seen.ensures.1 s.born in
    let same = (one_look c.sees_born.new.seat.me c.see_bits-seen.new.seat.me c.args.row c.see_bits-seen.result
    c.see_bits-seen.ensures.1).grows.same.roster ∙ s.seat.2.grows.same.roster in
    let there = subst (λ (h : TracerHandle). c.args.row < length h.view.roster) (sym c.self.view_is) c.requires in
    let stop = claimable_stop c.args.deaths c.see_bits-seen.result.number c.see_bits-seen.result.phase
    (ap (is_claimable c.args.deaths)
    (sym (c.show-shown.ensures ∙ ap (λ (w : Word). shown_of (shown true w.number w.phase)) c.seen.view_is))
    ∙ sym c.is_claimable.ensures ∙ c.if-not-is_claimable.false)
    (λ status dead. c.in_default.not-Dead status (ap (λ (w : Word). w.phase) (c.word.view_is ∙ c.seen.view_is) ∙ dead)) in
    record {
      row = subst (λ rows. c.args.row < length rows) (sym same) there;
      born = born;
      word = (
        idle_word c.sees_born.new.seat.me c.see_bits-seen.new.seat.me c.args.row c.see_bits-seen.result
            (phase.Stopped stop.0) c.see_bits-seen.ensures.1 stop.1 (λ e. cc),
        stop,
      );
    }

pub returns-in-Dead-clause-taken : goal.returns-in-Dead-clause-taken
returns-in-Dead-clause-taken g c =
    let x = c.self.inside in
    let e = c.sees_born.ensures.seat in
    let looked = looked_on x.seat.me.0 c.sees_born.new.seat.me.0 c.see_bits-seen.new.seat.me.0 e.2
    (one_look c.sees_born.new.seat.me c.see_bits-seen.new.seat.me c.args.row c.see_bits-seen.result c.see_bits-seen.ensures.1) in
    let deaths : c.args.deaths ≡ true =
    ap (λ p. is_claimable c.args.deaths (shown_of (shown true c.word.inside.number p))) (sym c.in-Dead.is)
    ∙ ap (λ (w : Word). is_claimable c.args.deaths (shown_of (shown true w.number w.phase))) c.word.view_is
    ∙ ap (is_claimable c.args.deaths) (sym c.show-shown.ensures) ∙ sym c.is_claimable.ensures
    ∙ c.if-not-is_claimable.false in
    subst (λ (h : TracerHandle). IsTaken c.args.deaths h.view c.reap_seen.new.self.view c.args.row c.reap_seen.result)
    c.self.view_is
    (taken_from c.args.deaths x.seat.me.0 c.see_bits-seen.new.seat.me.0 c.reap_seen.new.self.view c.args.row
    c.reap_seen.result looked
    (last_look x.seat.me.0 c.sees_born.new.seat.me c.see_bits-seen.new.seat.me c.args.row c.see_bits-seen.result e.2 c.see_bits-seen.ensures.1)
    (subst (λ d. IsTakenOrLost d c.see_bits-seen.new.seat.me.0 c.reap_seen.new.self.view c.args.row c.reap_seen.result) (sym deaths)
    c.reap_seen.ensures.taken))

pub returns-in_default : goal.returns-in_default
returns-in_default g c =
    let x = c.self.inside in
    let t = c.self.invariant.1 in
    let roster = subst IsRoster (sym t.roster_is) t.placed in
    let there = subst (λ (h : TracerHandle). c.args.row < length h.view.roster) (sym c.self.view_is) c.requires in
    let e = c.sees_born.ensures.seat in
    let looked = looked_on x.seat.me.0 c.sees_born.new.seat.me.0 c.see_bits-seen.new.seat.me.0 e.2
    (one_look c.sees_born.new.seat.me c.see_bits-seen.new.seat.me c.args.row c.see_bits-seen.result c.see_bits-seen.ensures.1) in
    record {
      handle = c.claim_seen.ensures.handle ∙ c.see_bits-seen.ensures.0.0 ∙ c.sees_born.ensures.seat.0.0
          ∙ ap (λ (h : TracerHandle). h.table_id) c.self.view_is;
      taken = subst
          (λ (h : TracerHandle). IsTaken c.args.deaths h.view c.claim_seen.new.self.view c.args.row c.claim_seen.result)
          c.self.view_is
          (taken_from c.args.deaths x.seat.me.0 c.see_bits-seen.new.seat.me.0 c.claim_seen.new.self.view c.args.row
          c.claim_seen.result looked
          (last_look x.seat.me.0 c.sees_born.new.seat.me c.see_bits-seen.new.seat.me c.args.row c.see_bits-seen.result e.2 c.see_bits-seen.ensures.1)
          c.claim_seen.ensures.taken);
      once = subst (λ (h : TracerHandle). TriesOnce h.view c.claim_seen.new.self.view c.args.row) c.self.view_is
          (then_exchanges x.seat.me.0 c.see_bits-seen.new.seat.me.0 c.claim_seen.new.self.view c.args.row
          (looked_down x.seat.me.0 c.sees_born.new.seat.me c.see_bits-seen.new.seat.me c.args.row c.see_bits-seen.result
          roster there c.sees_born.ensures.once c.see_bits-seen.ensures.1) c.claim_seen.ensures.step);
    }

pub returns-then-not-sees_born-clause-once : goal.returns-then-not-sees_born-clause-once
returns-then-not-sees_born-clause-once g c =
    subst (λ (h : TracerHandle). TriesOnce h.view c.sees_born.new.seat.me.0 c.args.row) c.self.view_is
    (tries_by_looks c.self.inside.seat.me.0 c.sees_born.new.seat.me.0 c.args.row
    (looked_at_parent c.self.inside.seat.me.0 c.sees_born.new.seat.me.0 c.args.row c.if-not-sees_born.ensures.once))

pub returns-then-not-is_claimable-clause-once : goal.returns-then-not-is_claimable-clause-once
returns-then-not-is_claimable-clause-once g c =
    let x = c.self.inside in
    let t = c.self.invariant.1 in
    let roster = subst IsRoster (sym t.roster_is) t.placed in
    let there = subst (λ (h : TracerHandle). c.args.row < length h.view.roster) (sym c.self.view_is) c.requires in
    subst (λ (h : TracerHandle). TriesOnce h.view c.see_bits-seen.new.seat.me.0 c.args.row) c.self.view_is
    (tries_by_looks x.seat.me.0 c.see_bits-seen.new.seat.me.0 c.args.row
    (looked_down x.seat.me.0 c.sees_born.new.seat.me c.see_bits-seen.new.seat.me c.args.row c.see_bits-seen.result roster
    there c.if-not-sees_born.ensures.once c.see_bits-seen.ensures.1))

pub returns-in-Dead-clause-once : goal.returns-in-Dead-clause-once
returns-in-Dead-clause-once g c =
    let x = c.self.inside in
    let t = c.self.invariant.1 in
    let roster = subst IsRoster (sym t.roster_is) t.placed in
    let there = subst (λ (h : TracerHandle). c.args.row < length h.view.roster) (sym c.self.view_is) c.requires in
    subst (λ (h : TracerHandle). TriesOnce h.view c.reap_seen.new.self.view c.args.row) c.self.view_is
    (then_exchanges x.seat.me.0 c.see_bits-seen.new.seat.me.0 c.reap_seen.new.self.view c.args.row
    (looked_down x.seat.me.0 c.sees_born.new.seat.me c.see_bits-seen.new.seat.me c.args.row c.see_bits-seen.result roster
    there c.sees_born.ensures.once c.see_bits-seen.ensures.1) c.reap_seen.ensures.step)
