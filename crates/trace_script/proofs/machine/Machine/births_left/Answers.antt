-- There are no more children than stops, and those are few.
use Rattle.std.proofs.Common.{ap, arith, length, ◌∙◌}
use Rattle.trace_script.specs.Births.{children_left}
use Rattle.trace_script.specs.Left.{left_by}
use Rattle.trace_script.proofs.ChildrenLeft.{few_children}
use Rattle.trace_script.proofs.machine.Machine.births_left.Goals as goal

pub overflow_cast-result : goal.overflow_cast-result
overflow_cast-result g c =
    let x = c.self.inside in
    let few = few_children (left_by x.setting x.progress x.image x.filled.items x.steps.items) in
    let count = c.births_by-births.ensures x.setting x.image x.filled.items
    ∙ ap (λ steps. length (children_left (left_by x.setting x.progress x.image x.filled.items steps)))
    c.as_slice.ensures.value in
    omega (arith, few, count, c.self.invariant)
