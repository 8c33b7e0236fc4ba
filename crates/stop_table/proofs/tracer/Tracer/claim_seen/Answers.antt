-- A claim of a stop that was seen.
use Rattle.std.proofs.Common.{◌≡◌, ◌∙◌, ◌<◌, ◌∷◌, [], ap, length, refl, subst, sym, false, true}
use Rattle.std.specs.Arc.{arc_value}
use Rattle.stop_history.specs.declared.phase.Phase.TheVariants as phase
use Rattle.stop_history.specs.Event as event
use Rattle.stop_history.specs.State.{is_born}
use Rattle.stop_history.specs.Step.{claimed}
use Rattle.stop_history.specs.Word.{Word}
use Rattle.stop_table.specs.Entry.{AreLegal, bare, cell_after, history_of, word_of}
use Rattle.stop_table.specs.declared.shown.Shown.TheVariants as shows
use Rattle.stop_table.specs.Handle.{Claims, IsHolding, LosesAt, OnlyExchanges}
use Rattle.stop_table.specs.Tracer.{IsTracer, TracerHandle}
use Rattle.stop_table.proofs.Answering.{did_claim, lost_claim}
use Rattle.stop_table.proofs.Counting.{newest}
use Rattle.stop_table.proofs.Tracers.{missed_claim, room_left, took_claim}
use Rattle.stop_table.proofs.tracer.Tracer.claim_seen.Goals as goal

pub put_first-requires : goal.put_first-requires
put_first-requires g c =
    let x = c.self.inside in
    let key = (arc_value x.cells).table.shared.key in
    let there = subst (λ (h : TracerHandle). c.args.row < length h.view.roster) (sym c.self.view_is) c.requires.row in
    let t = c.self.invariant.1 in
    let e = c.in-Ok.ensures in
    let more = took_claim key x.seat.me c.try_claim.new.seat.me x.number c.args.row c.requires.word.1.0 x.held
    c.args.seen c.in-Ok.stop (subst (λ rs. c.args.row < length rs) t.roster_is there) t e.claimed c.requires.word.1.1 in
    room_left key c.try_claim.new.seat.me x.number c.args.row x.held more

pub invariant_of-self : goal.invariant_of-self
invariant_of-self g c =
    let x = c.self.inside in
    let key = (arc_value x.cells).table.shared.key in
    let there = subst (λ (h : TracerHandle). c.args.row < length h.view.roster) (sym c.self.view_is) c.requires.row in
    let t = c.self.invariant.1 in
    let e = c.in-Ok.ensures in
    let more = took_claim key x.seat.me c.try_claim.new.seat.me x.number c.args.row c.requires.word.1.0 x.held
    c.args.seen c.in-Ok.stop (subst (λ rs. c.args.row < length rs) t.roster_is there) t e.claimed c.requires.word.1.1 in (
      e.seat.0 ∙ c.self.invariant.0,
      subst (IsTracer key c.try_claim.new.seat.me x.number) (sym c.put_first.ensures) more,
    )

pub invariant_of-self-in-Err : goal.invariant_of-self-in-Err
invariant_of-self-in-Err g c =
    let x = c.self.inside in
    let key = (arc_value x.cells).table.shared.key in
    let e = c.in-Err.ensures in (
      e.seat.0 ∙ c.self.invariant.0,
      missed_claim key x.seat.me c.try_claim.new.seat.me x.number c.args.row _ x.held c.self.invariant.1 e.claimed.0,
    )

pub returns-in-Ok-clause-taken : goal.returns-in-Ok-clause-taken
returns-in-Ok-clause-taken g c =
    let x = c.self.inside in
    let key = (arc_value x.cells).table.shared.key in
    let there = subst (λ (h : TracerHandle). c.args.row < length h.view.roster) (sym c.self.view_is) c.requires.row in
    let born = subst (λ (h : TracerHandle). is_born h.view.roster (history_of h.view.seen) c.args.row ≡ true)
    (sym c.self.view_is) c.requires.born in
    let number = sym c.self.invariant.1.number_is in
    let did = did_claim x.seat.me c.try_claim.new.seat.me c.args.row c.requires.word.1.0 c.args.seen c.in-Ok.stop there born
    c.in-Ok.ensures.claimed c.requires.word.1.1 in (
      subst (λ (h : TracerHandle). Claims h.view c.try_claim.new.seat.me.0 c.args.row c.in-Ok.stop) c.self.view_is did.0,
      subst (λ w. IsHolding c.try_claim.new.seat.me.0 c.args.row w c.in-Ok.stop)
          (ap (claimed c.args.seen) (sym number) ∙ ap (λ w. claimed w x.number) (sym c.seen.view_is)
          ∙ sym c.claimed.ensures) did.1,
      refl,
      number ∙ ap (λ (h : TracerHandle). h.view.number) c.self.view_is,
    )

pub returns-in-Err-clause-taken : goal.returns-in-Err-clause-taken
returns-in-Err-clause-taken g c =
    let x = c.self.inside in
    let key = (arc_value x.cells).table.shared.key in
    let there = subst (λ (h : TracerHandle). c.args.row < length h.view.roster) (sym c.self.view_is) c.requires.row in
    let born = subst (λ (h : TracerHandle). is_born h.view.roster (history_of h.view.seen) c.args.row ≡ true)
    (sym c.self.view_is) c.requires.born in
    let t = c.self.invariant.1 in
    let e = c.in-Err.ensures in
    let word = c.requires.word.0
    ∙ ap (λ (h : TracerHandle). word_of false (cell_after h.view.roster h.view.seen c.args.row)) (sym c.self.view_is) in (
      subst (λ (h : TracerHandle). LosesAt h.view c.try_claim.new.seat.me.0 c.args.row
          (shows.Claimed c.word.inside.number)) c.self.view_is
          (lost_claim x.seat.me c.try_claim.new.seat.me c.args.row c.args.seen _ (phase.Stopped c.requires.word.1.0)
          (shows.Claimed c.word.inside.number) there born (subst (λ rs. AreLegal rs x.seat.me.0.seen) (sym t.roster_is) t.legal)
          e.claimed.0 e.claimed.1 word c.requires.word.1.1 (λ k. refl)
          (λ k. ap shows.Claimed (ap (λ (w : Word). w.number) (sym (c.word.view_is ∙ c.seen.view_is))))),
      refl,
    )

pub returns-in-Ok-clause-step : goal.returns-in-Ok-clause-step
returns-in-Ok-clause-step g c =
    let x = c.self.inside in
    let n = c.try_claim.new.seat.me.0 in
    subst (λ (h : TracerHandle). OnlyExchanges h.view n c.args.row) c.self.view_is
    (newest x.seat.me.0 n c.in-Ok.ensures.claimed.1
    (bare (event.Claim c.args.row c.args.seen.number x.seat.me.0.number) ∷ []) x.seat.me.0.taken
    c.in-Ok.ensures.claimed.2.0)

pub returns-in-Err-clause-step : goal.returns-in-Err-clause-step
returns-in-Err-clause-step g c =
    let x = c.self.inside in
    let n = c.try_claim.new.seat.me.0 in
    let missed = c.in-Err.ensures.claimed.0 in
    subst (λ (h : TracerHandle). OnlyExchanges h.view n c.args.row) c.self.view_is
    (newest x.seat.me.0 n missed.1 [] x.seat.me.0.taken missed.2)
