-- A tracee takes its row up.
use Rattle.std.proofs.Common.{◌≡◌, ◌≢◌, ◌<◌, ◌∙◌, [], Ok, ap, inl, length, subst, sym, true}
use Rattle.std.specs.Arc.{arc_value}
use Rattle.stop_history.specs.Change.{restart_in}
use Rattle.stop_history.specs.Roster.{IsRoster}
use Rattle.stop_history.specs.Word.{IsWord, Word}
use Rattle.trace_record.specs.Content.{Content}
use Rattle.stop_table.specs.declared.shown.Shown.{Shown}
use Rattle.stop_table.specs.declared.shown.Shown.TheVariants as shows
use Rattle.stop_table.specs.Handle.{IsRowOrParent, LooksAt, LooksOnce, TakesUp, TriesOnce}
use Rattle.stop_table.specs.Tracee.{IsTracee, TraceeHandle}
use Rattle.stop_table.proofs.Counting.{looked_up, looks_wider, newest, saw_once, then_exchanges}
use Rattle.stop_table.proofs.Tracees.{does_not_run, idle_tracee, looks_unborn, takes_row_up, word_stays}
use Rattle.stop_table.proofs.Walking.{one_look}
use Rattle.stop_table.proofs.tracee.Tracee.take_up.Goals as goal

pub returns-in_default-clause-none : goal.returns-in_default-clause-none
returns-in_default-clause-none g c =
    let x = c.self.inside in
    let key = (arc_value x.cells).table.shared.key in
    let idle = idle_tracee key x.seat.me x.row x.word x.holder c.self.invariant.1
    (c.self.invariant.1.taken ∙ sym c.has_box.ensures ∙ c.if-has_box.false) in
    let word = ap (λ (w : Word). w.phase) (c.word.view_is ∙ c.seen.view_is) in
    λ _. subst (λ (h : TraceeHandle). (a : Shown) × LooksAt h.view c.see_bits-seen.new.seat.me.0 h.row a
    × (a ≢ shows.Running)) c.self.view_is
    (does_not_run key x.seat.me c.see_bits-seen.new.seat.me x.row x.word c.see_bits-seen.result idle c.see_bits-seen.ensures.1
    c.in_default.field-0 (ap restart_in (sym word) ∙ sym c.restart_in.ensures ∙ c.in_default.is))

pub returns-then-not-sees_running-clause-none : goal.returns-then-not-sees_running-clause-none
returns-then-not-sees_running-clause-none g c =
    let x = c.self.inside in
    let s = c.if-not-sees_running.ensures in
    λ _. subst (λ (h : TraceeHandle). (a : Shown) × LooksAt h.view c.sees_running.new.seat.me.0 h.row a
    × (a ≢ shows.Running)) c.self.view_is (
      shows.Unborn,
      looks_unborn x.seat.me.0 c.see_bits-seen.new.seat.me.0 c.sees_running.new.seat.me.0 x.row
          (one_look x.seat.me c.see_bits-seen.new.seat.me x.row c.see_bits-seen.result c.see_bits-seen.ensures.1) s.seat.2 s.born,
      (λ e. cc),
    )

pub take_record-boxed-requires-clause-seen : goal.take_record-boxed-requires-clause-seen
take_record-boxed-requires-clause-seen g c =
    let x = c.self.inside in
    let key = (arc_value x.cells).table.shared.key in
    let idle = idle_tracee key x.seat.me x.row x.word x.holder c.self.invariant.1
    (c.self.invariant.1.taken ∙ sym c.has_box.ensures ∙ c.if-has_box.false) in
    let word = ap (λ (w : Word). w.phase) (c.word.view_is ∙ c.seen.view_is) in
    let restart : restart_in c.see_bits-seen.result.phase ≡ Ok c.in-Ok.how =
    ap restart_in (sym word) ∙ sym c.restart_in.ensures ∙ c.in-Ok.is in (
      word_stays key x.seat.me c.see_bits-seen.new.seat.me x.row x.word c.see_bits-seen.result idle c.see_bits-seen.ensures.1
          c.sees_running.new.seat.me c.in-Ok.how restart c.sees_running.ensures.seat.2,
      (c.in-Ok.how, restart),
    )

pub invariant_of-self-2 : goal.invariant_of-self-2
invariant_of-self-2 g c =
    let x = c.self.inside in
    let key = (arc_value x.cells).table.shared.key in
    let idle = idle_tracee key x.seat.me x.row x.word x.holder c.self.invariant.1
    (c.self.invariant.1.taken ∙ sym c.has_box.ensures ∙ c.if-has_box.false) in
    let word = ap (λ (w : Word). w.phase) (c.word.view_is ∙ c.seen.view_is) in
    let s = c.if-not-sees_running.ensures in
    let restart : restart_in c.see_bits-seen.result.phase ≡ Ok c.in-Ok.how =
    ap restart_in (sym word) ∙ sym c.restart_in.ensures ∙ c.in-Ok.is in
    let up = takes_row_up key x.seat.me c.see_bits-seen.new.seat.me c.sees_running.new.seat.me c.take_record-boxed.new.seat.me
    x.row x.word c.see_bits-seen.result c.in-Ok.how c.take_record-boxed.result idle c.see_bits-seen.ensures.1
    (subst IsWord c.seen.view_is c.seen.invariant.1) restart s.seat.2 s.born s.seat.1 c.take_record-boxed.ensures.1 in (
      c.take_record-boxed.ensures.0.0 ∙ s.seat.0.0 ∙ c.see_bits-seen.ensures.0.0 ∙ c.self.invariant.0,
      subst (IsTracee key c.take_record-boxed.new.seat.me x.row c.seen.inside.word) (sym c.take-record.ensures.has_box)
          (subst (λ w. IsTracee key c.take_record-boxed.new.seat.me x.row w true) (sym c.seen.view_is) up.1),
    )

pub returns-clause-some : goal.returns-clause-some
returns-clause-some g c =
    let x = c.self.inside in
    let key = (arc_value x.cells).table.shared.key in
    let idle = idle_tracee key x.seat.me x.row x.word x.holder c.self.invariant.1
    (c.self.invariant.1.taken ∙ sym c.has_box.ensures ∙ c.if-has_box.false) in
    let word = ap (λ (w : Word). w.phase) (c.word.view_is ∙ c.seen.view_is) in
    let s = c.if-not-sees_running.ensures in
    let restart : restart_in c.see_bits-seen.result.phase ≡ Ok c.in-Ok.how =
    ap restart_in (sym word) ∙ sym c.restart_in.ensures ∙ c.in-Ok.is in
    let up = takes_row_up key x.seat.me c.see_bits-seen.new.seat.me c.sees_running.new.seat.me c.take_record-boxed.new.seat.me
    x.row x.word c.see_bits-seen.result c.in-Ok.how c.take_record-boxed.result idle c.see_bits-seen.ensures.1
    (subst IsWord c.seen.view_is c.seen.invariant.1) restart s.seat.2 s.born s.seat.1 c.take_record-boxed.ensures.1 in (
      subst (λ (h : TraceeHandle). TakesUp h.view c.take_record-boxed.new.seat.me.0 h.row c.in-Ok.how c.take-record.result)
          c.self.view_is
          (subst (λ (stop : Content). TakesUp x.seat.me.0 c.take_record-boxed.new.seat.me.0 x.row c.in-Ok.how stop)
          (sym c.take-record.ensures.record) up.0),
      up.1.taken,
    )

pub returns-in_default-clause-once : goal.returns-in_default-clause-once
returns-in_default-clause-once g c =
    let x = c.self.inside in
    let seen = c.see_bits-seen in
    subst (λ (h : TraceeHandle). LooksOnce (IsRowOrParent h.view.roster h.row) h.view seen.new.seat.me.0) c.self.view_is
    (looks_wider x.seat.me.0 seen.new.seat.me.0 (λ at own. inl own)
    (saw_once x.seat.me seen.new.seat.me x.row seen.result seen.ensures.1))

pub returns-then-not-sees_running-clause-once : goal.returns-then-not-sees_running-clause-once
returns-then-not-sees_running-clause-once g c =
    let x = c.self.inside in
    let t = c.self.invariant.1 in
    let seen = c.see_bits-seen in
    subst (λ (h : TraceeHandle). LooksOnce (IsRowOrParent h.view.roster h.row) h.view c.sees_running.new.seat.me.0)
    c.self.view_is
    (looked_up x.seat.me seen.new.seat.me c.sees_running.new.seat.me.0 x.row seen.result
    (subst IsRoster (sym t.roster_is) t.placed) (subst (λ rs. x.row < length rs) (sym t.roster_is) t.low) seen.ensures.1
    c.sees_running.ensures.once)

pub returns-clause-once : goal.returns-clause-once
returns-clause-once g c =
    let x = c.self.inside in
    let t = c.self.invariant.1 in
    let seen = c.see_bits-seen in
    let looked = c.sees_running.new.seat.me.0 in
    let last = c.take_record-boxed.new.seat.me.0 in
    let took = c.take_record-boxed.ensures.1 in
    subst (λ (h : TraceeHandle). TriesOnce h.view last h.row) c.self.view_is
    (then_exchanges x.seat.me.0 looked last x.row
    (looked_up x.seat.me seen.new.seat.me looked x.row seen.result
    (subst IsRoster (sym t.roster_is) t.placed) (subst (λ rs. x.row < length rs) (sym t.roster_is) t.low) seen.ensures.1
    c.sees_running.ensures.once)
    (newest looked last took.1 [] true took.2))
