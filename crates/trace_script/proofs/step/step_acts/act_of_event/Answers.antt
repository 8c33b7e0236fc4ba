-- After the event comes the answer.
use Rattle.std.proofs.Common.{ap, sym, arith, Some, ◌∙◌}
use Rattle.std.specs.Prelude.{option_map}
use Rattle.trace_script.specs.StepStops.{ByOption, Halts, answers}
use Rattle.trace_script.proofs.Steps.{get_later}
use Rattle.trace_script.proofs.step.step_acts.act_of_event.Goals as goal

pub returns-in_default : goal.returns-in_default
returns-in_default c = λ filled step. c.act_of_answer.ensures filled step
    ∙ ap (option_map Some) (sym (get_later (Halts (ByOption c.args.option) c.args.stop) (answers c.args.answer)
    c.args.place (omega arith)))
