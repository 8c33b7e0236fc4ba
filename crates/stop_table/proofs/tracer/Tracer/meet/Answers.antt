-- A tracer takes in another handle.
use Rattle.std.proofs.Common.{◌∙◌, ap, subst}
use Rattle.std.specs.Arc.{arc_value}
use Rattle.stop_table.specs.Handle.{Meets}
use Rattle.stop_table.specs.Steps.{Seated}
use Rattle.stop_table.specs.Tracer.{TracerHandle}
use Rattle.stop_table.specs.View.{View}
use Rattle.stop_table.proofs.Tracers.{has_met, met_tracer}
use Rattle.stop_table.proofs.tracer.Tracer.meet.Goals as goal

pub invariant_of-self : goal.invariant_of-self
invariant_of-self g c =
    let x = c.self.inside in
    let key = (arc_value x.cells).table.shared.key in (
      c.join.ensures.0.0 ∙ c.self.invariant.0,
      met_tracer key x.seat.me c.join.new.seat.me c.into_seat.result.me.0 x.number x.held c.self.invariant.1
          c.join.ensures.1,
    )

pub returns-clause-met : goal.returns-clause-met
returns-clause-met g c =
    let x = c.self.inside in
    subst (λ (h : TracerHandle). Meets h.view c.args.other.view c.join.new.seat.me.0) c.self.view_is
    (subst (λ (v : View). Meets x.seat.me.0 v c.join.new.seat.me.0)
    (ap (λ (m : Seated). m.0) c.into_seat.ensures.1)
    (has_met x.seat.me c.join.new.seat.me c.into_seat.result.me.0 c.join.ensures.1))
