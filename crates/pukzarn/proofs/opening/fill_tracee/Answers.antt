-- The end that is left last is in the handle.
use Rattle.std.proofs.Common.{◌∙◌, Option, Result, Ok, Some, ap, subst}
use Rattle.c_interface.specs.Opening.{IsNextTracee}
use Rattle.c_interface.specs.declared.error.Error.{Error}
use Rattle.c_interface.specs.declared.tracee_end.TraceeEnd.{TraceeEnd}
use Rattle.pukzarn.proofs.opening.fill_tracee.Goals as goal

pub returns : goal.returns
returns c = record {
  end = c.in-Some.tracee;
  gives = subst (λ (r : Result (Option TraceeEnd) Error). IsNextTracee c.args.opened.now c.next_tracee.new.self r)
      (c.in_ok-tracee.was ∙ ap Ok c.in-Some.is) c.next_tracee.ensures;
  held = c.fill.ensures ∙ ap Some c.in_ok-boxed.ensures;
}
