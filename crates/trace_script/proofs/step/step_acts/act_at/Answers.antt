-- A step is a signal that arrives, or else a call.
use Rattle.std.proofs.Common.{ap, sym, Some, ◌∙◌}
use Rattle.std.specs.Prelude.{option_map, slice_get}
use Rattle.trace_script.specs.Script as step
use Rattle.trace_script.proofs.StepActs.{calls_act}
use Rattle.trace_script.proofs.step.step_acts.act_at.Goals as goal

pub returns-in-Signal : goal.returns-in-Signal
returns-in-Signal g c = λ filled.
    rw c.in-Signal.is (c.act_at_signal.ensures filled (step.Signal c.in-Signal.signal c.in-Signal.deadly))

pub returns-in_default : goal.returns-in_default
returns-in_default g c = λ filled. c.act_in_call.ensures filled
    ∙ ap (λ acts. option_map Some (slice_get acts c.args.place))
    (sym (calls_act c.args.setting.now filled c.args.step.now c.in_default.not-Signal))
