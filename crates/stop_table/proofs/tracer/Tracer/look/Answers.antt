-- A look at a row.
use Rattle.std.proofs.Common.{◌∙◌, ◌<◌, length, subst, sym}
use Rattle.std.specs.Arc.{arc_value}
use Rattle.stop_history.specs.Roster.{IsRoster}
use Rattle.stop_table.specs.declared.shown.Shown.TheVariants as shows
use Rattle.stop_table.specs.Handle.{IsRowOrParent, LooksAt, LooksOnce}
use Rattle.stop_table.specs.Tracer.{TracerHandle}
use Rattle.stop_table.proofs.Answering.{looks_at_word}
use Rattle.stop_table.proofs.Counting.{looked_at_parent, looked_down}
use Rattle.stop_table.proofs.Tracers.{seen_unborn, tracer_looked}
use Rattle.stop_table.proofs.Walking.{looked_on, one_look}
use Rattle.stop_table.proofs.tracer.Tracer.look.Goals as goal

pub invariant_of-self : goal.invariant_of-self
invariant_of-self g c =
    let x = c.self.inside in
    let key = (arc_value x.cells).table.shared.key in
    let e = c.sees_born.ensures.seat in (
      e.0.0 ∙ c.self.invariant.0,
      tracer_looked key x.seat.me c.sees_born.new.seat.me x.number x.held c.self.invariant.1 e.2 e.1,
    )

pub returns-then-not-sees_born-clause-shown : goal.returns-then-not-sees_born-clause-shown
returns-then-not-sees_born-clause-shown g c =
    let x = c.self.inside in
    let key = (arc_value x.cells).table.shared.key in
    let s = c.if-not-sees_born.ensures in
    subst (λ (h : TracerHandle). LooksAt h.view c.sees_born.new.seat.me.0 c.args.row shows.Unborn) c.self.view_is
    (seen_unborn key x.seat.me c.sees_born.new.seat.me.0 x.number x.held c.args.row c.self.invariant.1 s.seat.2
    s.born)

pub invariant_of-self-2 : goal.invariant_of-self-2
invariant_of-self-2 g c =
    let x = c.self.inside in
    let key = (arc_value x.cells).table.shared.key in
    let e = c.sees_born.ensures.seat in
    let looked = looked_on x.seat.me.0 c.sees_born.new.seat.me.0 c.see.new.seat.me.0 e.2
    (one_look c.sees_born.new.seat.me c.see.new.seat.me c.args.row c.see.result c.see.ensures.1) in (
      c.see.ensures.0.0 ∙ e.0.0 ∙ c.self.invariant.0,
      tracer_looked key x.seat.me c.see.new.seat.me x.number x.held c.self.invariant.1 looked
          (c.see.ensures.1.0 ∙ e.1),
    )

pub returns-clause-shown : goal.returns-clause-shown
returns-clause-shown g c =
    let x = c.self.inside in
    let key = (arc_value x.cells).table.shared.key in
    let s = c.if-not-sees_born.ensures in
    let there = subst (λ (h : TracerHandle). c.args.row < length h.view.roster) (sym c.self.view_is) c.requires in
    subst (λ (h : TracerHandle). LooksAt h.view c.see.new.seat.me.0 c.args.row c.show.result) c.self.view_is
    (subst (LooksAt x.seat.me.0 c.see.new.seat.me.0 c.args.row) (sym c.show.ensures)
    (looks_at_word x.seat.me.0 c.sees_born.new.seat.me c.see.new.seat.me c.args.row c.see.result there s.seat.2 s.born
    c.see.ensures.1))

pub returns-then-not-sees_born-clause-once : goal.returns-then-not-sees_born-clause-once
returns-then-not-sees_born-clause-once g c =
    subst (λ (h : TracerHandle). LooksOnce (IsRowOrParent h.view.roster c.args.row) h.view c.sees_born.new.seat.me.0)
    c.self.view_is
    (looked_at_parent c.self.inside.seat.me.0 c.sees_born.new.seat.me.0 c.args.row c.if-not-sees_born.ensures.once)

pub returns-clause-once : goal.returns-clause-once
returns-clause-once g c =
    let x = c.self.inside in
    let t = c.self.invariant.1 in
    let there = subst (λ (h : TracerHandle). c.args.row < length h.view.roster) (sym c.self.view_is) c.requires in
    subst (λ (h : TracerHandle). LooksOnce (IsRowOrParent h.view.roster c.args.row) h.view c.see.new.seat.me.0)
    c.self.view_is
    (looked_down x.seat.me.0 c.sees_born.new.seat.me c.see.new.seat.me c.args.row c.see.result
    (subst IsRoster (sym t.roster_is) t.placed) there c.if-not-sees_born.ensures.once c.see.ensures.1)
