-- The record is the script's, under the row's own thread id and number.
use Rattle.std.proofs.Common.{◌≡◌, ◌∙◌, ap, subst, sym}
use Rattle.trace_record.specs.Content.{Content, content_by}
use Rattle.trace_script.specs.StopTrace.{context_of, next_element}
use Rattle.c_interface.specs.InHand.{taken_over}
use Rattle.c_interface.specs.Scripts.{IsElement}
use Rattle.c_interface.proofs.Elements.{over_own}
use Rattle.c_interface.proofs.tracee_memory.own_step.Goals as goal

pub returns : goal.returns
returns c =
    let old = c.args.stopped.now in
    let new = c.next_step-step.new.stopped in
    let element = next_element c.args.machine.now c.args.how (context_of old) in
    let made : taken_over old new ≡ _ =
    ap (λ (x : Content). taken_over x new) (sym c.stopped.view_is)
    ∙ ap (λ (x : Content). content_by c.stopped.inside.tid c.stopped.inside.number x.stop x.regs x.memory)
    (sym c.stopped-2.view_is) in (
      c.next_step-step.ensures.0,
      subst (λ (x : Content). IsElement element (taken_over old) old x c.next_step-step.result) made
          (over_own element old new c.next_step-step.result c.next_step-step.ensures.1),
    )
