-- The call on what the handle holds.
use Rattle.std.proofs.Common.{sym, subst, rules}
use Rattle.c_interface.specs.Scripts.{IsMachineNext}
use Rattle.pukzarn.specs.Call.{IsCallOn}
use Rattle.pukzarn.specs.Scripts.{IsWithSame}
use Rattle.pukzarn.specs.declared.handle.Handle.{Handle}
use Rattle.pukzarn.proofs.Calls.{none_held, on_machine}
use Rattle.pukzarn.specs.declared.handle_value.HandleValue.TheVariants as ends
use Rattle.pukzarn.proofs.scripts.pukzarn_machine_next.Goals as goal
use Rattle.pukzarn.proofs.scripts.pukzarn_machine_next.Goals.{in-Machine, in_default-deref_mut}

pub returns-clause-call : goal.returns-clause-call
returns-clause-call c =
    elim c.match-deref_mut.branch [
      | in-Machine w ↦
          on_machine _ _ _ _ w.in-Machine.machine w.next_into.new.machine w.next_into.result (search rules) (search rules)
          (subst (λ (h : Handle). IsCallOn ends.Stopped c.args.stopped.now h
          (λ told. IsWithSame w.in-Machine.machine w.next_into.new.machine w.next_into.result told)
          (λ a b. IsMachineNext w.in-Machine.machine.machine w.next_into.new.machine.machine c.args.how.now a b))
          (sym w.stopped-is) w.next_into.ensures)
          (search rules)
      | in_default-deref_mut w ↦ none_held ends.Machine _ _ _ _ (search rules) (search rules) (search rules)
    ]
