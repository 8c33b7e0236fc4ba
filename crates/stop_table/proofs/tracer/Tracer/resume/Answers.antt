-- A tracer resumes a row that it has claimed.
use Rattle.std.proofs.Common.{◌∙◌, ◌∷◌, [], ap, drop, subst, sym}
use Rattle.std.specs.Arc.{arc_value}
use Rattle.stop_table.specs.Entry.{resume_of}
use Rattle.stop_table.specs.Handle.{EndsWith, IsHolding, OnlyExchanges}
use Rattle.stop_table.specs.Tracer.{IsTracer, TracerHandle}
use Rattle.stop_table.specs.View.{View}
use Rattle.stop_table.proofs.Counting.{newest}
use Rattle.stop_table.proofs.Tracers.{at_front, is_held_row, let_go, turned_tracer}
use Rattle.stop_table.proofs.Walking.{ended_with}
use Rattle.stop_table.proofs.tracer.Tracer.resume.Goals as goal

pub bring-requires-clause-rows : goal.bring-requires-clause-rows
bring-requires-clause-rows g c =
    let x = c.self.inside in
    let key = (arc_value x.cells).table.shared.key in
    let t = c.self.invariant.1 in
    let holding = subst (λ (h : TracerHandle). IsHolding h.view c.args.claim.row c.args.claim.word c.args.claim.stop)
    (sym c.self.view_is) c.requires.claim in (
      t.apart,
      is_held_row key x.seat.me x.number x.held c.args.claim.row c.args.claim.word c.args.claim.stop t holding,
    )

pub let_run-requires-clause-held : goal.let_run-requires-clause-held
let_run-requires-clause-held g c =
    let x = c.self.inside in
    let key = (arc_value x.cells).table.shared.key in
    let t = c.self.invariant.1 in
    let holding = subst (λ (h : TracerHandle). IsHolding h.view c.args.claim.row c.args.claim.word c.args.claim.stop)
    (sym c.self.view_is) c.requires.claim in
    let turned = turned_tracer key x.seat.me c.bring.new.seat.me x.number x.held c.bring.new.self t
    c.bring.ensures.seat.2 c.bring.ensures.slots c.bring.ensures.rows.0 c.bring.ensures.rows.1 in
    at_front x.seat.me c.bring.new.seat.me c.args.claim.row c.bring.new.self c.bring.ensures.front.0
    c.args.claim.word c.args.claim.stop holding c.bring.ensures.seat.2 c.bring.ensures.slots c.bring.ensures.front.1

pub invariant_of-self : goal.invariant_of-self
invariant_of-self g c =
    let x = c.self.inside in
    let key = (arc_value x.cells).table.shared.key in
    let t = c.self.invariant.1 in
    let holding = subst (λ (h : TracerHandle). IsHolding h.view c.args.claim.row c.args.claim.word c.args.claim.stop)
    (sym c.self.view_is) c.requires.claim in
    let turned = turned_tracer key x.seat.me c.bring.new.seat.me x.number x.held c.bring.new.self t
    c.bring.ensures.seat.2 c.bring.ensures.slots c.bring.ensures.rows.0 c.bring.ensures.rows.1 in
    let others = c.bring.ensures.front.0 in
    let front = subst (IsTracer key c.bring.new.seat.me x.number) c.bring.ensures.front.1 turned in
    let last = let_go key c.bring.new.seat.me c.let_run.new.seat.me x.number c.args.claim.row c.args.claim.word.number
    c.args.how c.args.claim.stop others front c.let_run.ensures.1 in (
      c.let_run.ensures.0.0 ∙ c.bring.ensures.seat.0 ∙ c.self.invariant.0,
      subst (IsTracer key c.let_run.new.seat.me x.number)
          (sym (c.take_first.ensures ∙ ap (drop 1) c.bring.ensures.front.1)) last,
    )

pub returns-clause-made : goal.returns-clause-made
returns-clause-made g c =
    let x = c.self.inside in
    let key = (arc_value x.cells).table.shared.key in
    let t = c.self.invariant.1 in
    let holding = subst (λ (h : TracerHandle). IsHolding h.view c.args.claim.row c.args.claim.word c.args.claim.stop)
    (sym c.self.view_is) c.requires.claim in
    let turned = turned_tracer key x.seat.me c.bring.new.seat.me x.number x.held c.bring.new.self t
    c.bring.ensures.seat.2 c.bring.ensures.slots c.bring.ensures.rows.0 c.bring.ensures.rows.1 in
    let run = c.let_run.ensures.1 in
    let number = c.args.claim.word.number in
    let row = c.args.claim.row in
    let stop = c.args.claim.stop in
    let x' = resume_of row number c.args.how c.bring.new.seat.me.0.number stop in (
      run.1,
      subst (λ (v : View). EndsWith v c.let_run.new.seat.me.0 run.1 (resume_of row number c.args.how v.number stop))
          (c.bring.ensures.seat.2 ∙ ap (λ (h : TracerHandle). h.view) c.self.view_is)
          (ended_with c.bring.new.seat.me.0 c.let_run.new.seat.me.0 run.1 x' c.bring.new.seat.me.0.taken run.2),
    )

pub returns-clause-once : goal.returns-clause-once
returns-clause-once g c =
    let claim = c.args.claim in
    let run = c.let_run.ensures.1 in
    let before = c.bring.new.seat.me.0 in
    subst (λ (v : View). OnlyExchanges v c.let_run.new.seat.me.0 claim.row)
    (c.bring.ensures.seat.2 ∙ ap (λ (h : TracerHandle). h.view) c.self.view_is)
    (newest before c.let_run.new.seat.me.0 run.1
    (resume_of claim.row claim.word.number c.args.how before.number claim.stop ∷ []) before.taken run.2)
