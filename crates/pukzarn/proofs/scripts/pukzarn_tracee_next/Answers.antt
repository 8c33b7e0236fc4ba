-- The call on what the handle holds.
use Rattle.std.proofs.Common.{◌≡◌, sym, subst, rules}
use Rattle.c_interface.specs.InHand.{IsNextOf}
use Rattle.pukzarn.specs.Call.{IsCallOn}
use Rattle.pukzarn.specs.Scripts.{IsWithSame}
use Rattle.pukzarn.specs.declared.handle.Handle.{Handle}
use Rattle.pukzarn.proofs.Calls.{none_held, on_tracee}
use Rattle.pukzarn.specs.declared.handle_value.HandleValue.TheVariants as ends
use Rattle.pukzarn.proofs.scripts.pukzarn_tracee_next.Goals as goal
use Rattle.pukzarn.proofs.scripts.pukzarn_tracee_next.Goals.{in-Tracee, in_default-deref_mut}

pub returns-clause-call : goal.returns-clause-call
returns-clause-call c =
    elim c.match-deref_mut.branch [
      | in-Tracee w ↦
          on_tracee _ _ _ _ w.in-Tracee.tracee w.next_of.new.tracee w.next_of.result (search rules) (search rules)
          (subst (λ (h : Handle). IsCallOn ends.Machine c.args.script.now h
          (λ told. IsWithSame w.in-Tracee.tracee w.next_of.new.tracee w.next_of.result told)
          (λ p q told. IsNextOf w.in-Tracee.tracee w.next_of.new.tracee p.machine q.machine told × (q.births ≡ p.births)))
          (sym w.script-is) w.next_of.ensures)
          (search rules)
      | in_default-deref_mut w ↦ none_held ends.Tracee _ _ _ _ (search rules) (search rules) (search rules)
    ]
