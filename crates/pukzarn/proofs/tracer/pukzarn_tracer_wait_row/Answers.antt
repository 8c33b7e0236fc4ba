-- The call on what the handle holds.
use Rattle.std.proofs.Common.{rules}
use Rattle.pukzarn.proofs.Calls.{none_held, on_tracer}
use Rattle.pukzarn.specs.declared.handle_value.HandleValue.TheVariants as ends
use Rattle.pukzarn.proofs.tracer.pukzarn_tracer_wait_row.Goals as goal
use Rattle.pukzarn.proofs.tracer.pukzarn_tracer_wait_row.Goals.{in-Tracer, in_default-deref_mut}

pub returns : goal.returns
returns c =
    elim c.match-deref_mut.branch [
      | in-Tracer w ↦
          on_tracer _ _ _ _ w.in-Tracer.tracer (record { calls = w.tracer_wait_row.new.calls }) w.tracer_wait_row.result (search rules) (search rules)
          (w.tracer_wait_row.ensures.table, w.tracer_wait_row.ensures.answer) (search rules)
      | in_default-deref_mut w ↦ none_held ends.Tracer _ _ _ _ (search rules) (search rules) (search rules)
    ]
