-- The call on what the handle holds.
use Rattle.std.proofs.Common.{subst, rules, w32}
use Rattle.std.proofs.lemmas.Int.{to_z-of_z}
use Rattle.c_interface.specs.Tracer.{IsRestartFor}
use Rattle.pukzarn.proofs.Calls.{none_held, on_tracer}
use Rattle.pukzarn.specs.declared.handle_value.HandleValue.TheVariants as ends
use Rattle.pukzarn.proofs.tracer.pukzarn_tracer_resume.Goals as goal
use Rattle.pukzarn.proofs.tracer.pukzarn_tracer_resume.Goals.{in-Tracer, in_default-deref_mut}

pub returns : goal.returns
returns c =
    elim c.match-deref_mut.branch [
      | in-Tracer w ↦
          on_tracer _ _ _ _ w.in-Tracer.tracer (record { calls = w.tracer_resume.new.calls }) w.tracer_resume.result (search rules) (search rules) (
            w.tracer_resume.ensures.table,
            subst (λ pid. IsRestartFor w.in-Tracer.tracer.calls w.tracer_resume.new.calls pid c.args.how.now w.tracer_resume.result)
                (to_z-of_z w32 c.args.pid c.ranges.pid) w.tracer_resume.ensures.answer,
          ) (search rules)
      | in_default-deref_mut w ↦ none_held ends.Tracer _ _ _ _ (search rules) (search rules) (search rules)
    ]
