-- A claim of a death that was seen.
use Rattle.std.proofs.Common.{◌≡◌, ◌∙◌, ◌<◌, ◌∷◌, [], ap, length, refl, subst, sym, false, true}
use Rattle.std.specs.Arc.{arc_value}
use Rattle.stop_history.specs.declared.phase.Phase.TheVariants as phase
use Rattle.stop_history.specs.Event as event
use Rattle.stop_history.specs.State.{is_born}
use Rattle.stop_history.specs.Word.{Word}
use Rattle.stop_table.specs.declared.shown.Shown.TheVariants as shows
use Rattle.stop_table.specs.Entry.{AreLegal, bare, cell_after, history_of, word_of}
use Rattle.stop_table.specs.Handle.{LosesAt, OnlyExchanges, Reaps}
use Rattle.stop_table.specs.Tracer.{TracerHandle}
use Rattle.stop_table.proofs.Answering.{did_reap, has_death, lost_claim}
use Rattle.stop_table.proofs.Counting.{newest}
use Rattle.stop_table.proofs.Tracers.{kept_reap, missed_claim}
use Rattle.stop_table.proofs.tracer.Tracer.reap_seen.Goals as goal

pub invariant_of-self : goal.invariant_of-self
invariant_of-self g c =
    let x = c.self.inside in
    let key = (arc_value x.cells).table.shared.key in
    let e = c.in-Err.ensures in (
      e.seat.0 ∙ c.self.invariant.0,
      missed_claim key x.seat.me c.try_reap.new.seat.me x.number c.args.row c.in-Err.field-0 x.held c.self.invariant.1
          e.reaped.0,
    )

pub returns-in-Err-clause-taken : goal.returns-in-Err-clause-taken
returns-in-Err-clause-taken g c =
    let x = c.self.inside in
    let key = (arc_value x.cells).table.shared.key in
    let there = subst (λ (h : TracerHandle). c.args.row < length h.view.roster) (sym c.self.view_is) c.requires.row in
    let born = subst (λ (h : TracerHandle). is_born h.view.roster (history_of h.view.seen) c.args.row ≡ true)
    (sym c.self.view_is) c.requires.born in
    let t = c.self.invariant.1 in
    let e = c.in-Err.ensures in
    let word = c.requires.word.0
    ∙ ap (λ (h : TracerHandle). word_of false (cell_after h.view.roster h.view.seen c.args.row)) (sym c.self.view_is) in (
      subst (λ (h : TracerHandle). LosesAt h.view c.try_reap.new.seat.me.0 c.args.row shows.Reaped) c.self.view_is
          (lost_claim x.seat.me c.try_reap.new.seat.me c.args.row c.args.seen c.in-Err.field-0 (phase.Dead c.args.status)
          shows.Reaped there born (subst (λ rs. AreLegal rs x.seat.me.0.seen) (sym t.roster_is) t.legal) e.reaped.0 e.reaped.1
          word c.requires.word.1 (λ k. refl) (λ k. refl)),
      refl,
    )

pub unreachable-requires : goal.unreachable-requires
unreachable-requires g c =
    let x = c.self.inside in
    let some = has_death x.seat.me c.try_reap.new.seat.me c.args.row c.args.status c.args.seen c.in_default.ensures.reaped
    c.requires.word.1 in
    c.in_default-from_status.not-Some some.0 (c.from_status.ensures.each some.0 some.1 some.2)

pub invariant_of-self-2 : goal.invariant_of-self-2
invariant_of-self-2 g c =
    let x = c.self.inside in
    let key = (arc_value x.cells).table.shared.key in
    let e = c.in_default.ensures in (
      e.seat.0 ∙ c.self.invariant.0,
      kept_reap key x.seat.me c.try_reap.new.seat.me x.number c.args.row c.args.status x.held c.args.seen
          c.self.invariant.1 e.reaped c.requires.word.1,
    )

pub returns-clause-taken : goal.returns-clause-taken
returns-clause-taken g c =
    let x = c.self.inside in
    let key = (arc_value x.cells).table.shared.key in
    let there = subst (λ (h : TracerHandle). c.args.row < length h.view.roster) (sym c.self.view_is) c.requires.row in
    let born = subst (λ (h : TracerHandle). is_born h.view.roster (history_of h.view.seen) c.args.row ≡ true)
    (sym c.self.view_is) c.requires.born in
    let told = c.in-Some.ensures.reported in (
      subst (λ (h : TracerHandle). Reaps h.view c.try_reap.new.seat.me.0 c.args.row c.in-Some.death c.word.inside.number)
          c.self.view_is
          (subst (Reaps x.seat.me.0 c.try_reap.new.seat.me.0 c.args.row c.in-Some.death)
          (ap (λ (w : Word). w.number) (sym (c.word.view_is ∙ c.seen.view_is)))
          (did_reap x.seat.me c.try_reap.new.seat.me c.args.row c.args.status c.args.seen c.in-Some.death there born
          c.in_default.ensures.reaped c.requires.word.1 told.0 told.1)),
      refl,
    )

pub returns-clause-step : goal.returns-clause-step
returns-clause-step g c =
    let x = c.self.inside in
    let n = c.try_reap.new.seat.me.0 in
    subst (λ (h : TracerHandle). OnlyExchanges h.view n c.args.row) c.self.view_is
    (newest x.seat.me.0 n c.in_default.ensures.reaped.1
    (bare (event.Claim c.args.row c.args.seen.number x.seat.me.0.number) ∷ []) x.seat.me.0.taken
    c.in_default.ensures.reaped.2.0)

pub returns-in-Err-clause-step : goal.returns-in-Err-clause-step
returns-in-Err-clause-step g c =
    let x = c.self.inside in
    let n = c.try_reap.new.seat.me.0 in
    let missed = c.in-Err.ensures.reaped.0 in
    subst (λ (h : TracerHandle). OnlyExchanges h.view n c.args.row) c.self.view_is
    (newest x.seat.me.0 n missed.1 [] x.seat.me.0.taken missed.2)
