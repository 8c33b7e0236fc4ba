-- The birth of the step underway is still to come, or is past.
use Rattle.std.proofs.Common.{◌<◌, ap, arith, drop, length, sym, ◌∙◌}
use Rattle.trace_script.proofs.ChildrenLeft.{coming_children, passed_children}
use Rattle.trace_script.proofs.machine.births.births_at.Goals as goal

pub returns-then-place-le-BIRTH_PLACE : goal.returns-then-place-le-BIRTH_PLACE
returns-then-place-le-BIRTH_PLACE g c s filled =
    c.births_from.ensures filled
    ∙ ap length (sym (coming_children s filled (drop c.args.index c.args.steps.now) c.args.place
    c.if-place-le-BIRTH_PLACE.true))

pub returns : goal.returns
returns g c s filled =
    let late : 3 < c.args.place = omega (arith, c.if-place-le-BIRTH_PLACE.false) in
    let within : c.args.index < length c.args.steps.now = omega (arith, c.if-index-steps.false) in
    c.births_from-2.ensures filled
    ∙ ap length (sym (passed_children s filled c.args.steps.now c.args.index c.args.place late within))
