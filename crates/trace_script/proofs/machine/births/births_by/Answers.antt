-- The children that are left, by how far the machine is.
use Rattle.std.proofs.Common.{ap, length, sym, ◌∙◌}
use Rattle.trace_script.specs.Kept.{steps_of}
use Rattle.trace_script.proofs.ChildrenLeft.{created_steps}
use Rattle.trace_script.proofs.machine.births.births_by.Goals as goal

pub returns-in-New : goal.returns-in-New
returns-in-New g c s image filled =
    rw c.in-New.is
    (c.births_from.ensures filled ∙ ap length (sym (created_steps s (steps_of filled c.args.steps.now))))
