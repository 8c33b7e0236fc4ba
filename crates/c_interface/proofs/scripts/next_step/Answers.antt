-- The answer is the next element of the script's trace.
use Rattle.std.proofs.Common.{◌∙◌, ap, Ok}
use Rattle.trace_record.specs.Content.{Content}
use Rattle.c_interface.specs.Stop.{numbers_of}
use Rattle.c_interface.specs.declared.scripts.NextStep.TheVariants as step
use Rattle.c_interface.proofs.Elements.{at_death, at_fault, at_stop}
use Rattle.c_interface.proofs.scripts.next_step.Goals as goal
use Rattle.c_interface.proofs.scripts.next_step.Goals.{in-Stop, in-Death, in-Fault}

pub returns : goal.returns
returns c = (
  c.next.ensures.position,
  elim c.match-next.branch [
    | in-Stop w ↦
        at_stop _ _ _ _ _ c.next.ensures.element w.in-Stop.is
        (w.result-is ∙ ap (λ n. Ok (step.Stop n)) w.of.ensures
        ∙ ap (λ (x : Content). Ok (step.Stop (numbers_of x.stop))) c.stopped.view_is)
    | in-Death w ↦
        at_death _ _ _ _ _ c.next.ensures.element w.in-Death.death w.in-Death.is
        (w.result-is ∙ ap (λ n. Ok (step.Death n)) w.status.ensures)
    | in-Fault w ↦ at_fault _ _ _ _ _ c.next.ensures.element w.in-Fault.field-0 w.in-Fault.is w.result-is
  ],
)
