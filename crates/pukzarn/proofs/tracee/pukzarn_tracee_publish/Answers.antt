-- The call on what the handle holds.
use Rattle.std.proofs.Common.{rules}
use Rattle.pukzarn.proofs.Calls.{none_held, on_tracee}
use Rattle.pukzarn.specs.declared.handle_value.HandleValue.TheVariants as ends
use Rattle.pukzarn.proofs.tracee.pukzarn_tracee_publish.Goals as goal
use Rattle.pukzarn.proofs.tracee.pukzarn_tracee_publish.Goals.{in-Tracee, in_default-deref_mut}

pub returns : goal.returns
returns c =
    elim c.match-deref_mut.branch [
      | in-Tracee w ↦
          on_tracee _ _ _ _ w.in-Tracee.tracee w.tracee_publish.new.end w.tracee_publish.result (search rules) (search rules)
          w.tracee_publish.ensures (search rules)
      | in_default-deref_mut w ↦ none_held ends.Tracee _ _ _ _ (search rules) (search rules) (search rules)
    ]
