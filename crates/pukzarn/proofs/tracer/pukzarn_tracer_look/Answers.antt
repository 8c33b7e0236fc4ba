-- The call on what the handle holds.
use Rattle.std.proofs.Common.{refl, Ok, rules}
use Rattle.pukzarn.proofs.Calls.{none_held, on_tracer}
use Rattle.pukzarn.specs.declared.handle_value.HandleValue.TheVariants as ends
use Rattle.pukzarn.proofs.tracer.pukzarn_tracer_look.Goals as goal
use Rattle.pukzarn.proofs.tracer.pukzarn_tracer_look.Goals.{in-Tracer, in_default-deref_mut}

pub returns : goal.returns
returns c =
    elim c.match-deref_mut.branch [
      | in-Tracer w ↦
          on_tracer _ _ _ _ w.in-Tracer.tracer (record { calls = w.tracer_look.new.calls }) (Ok w.tracer_look.result) (search rules) (search rules)
          (w.tracer_look.ensures.table, (w.tracer_look.result, w.tracer_look.ensures.answer, refl)) (search rules)
      | in_default-deref_mut w ↦ none_held ends.Tracer _ _ _ _ (search rules) (search rules) (search rules)
    ]
