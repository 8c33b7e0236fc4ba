-- What a step does after the seccomp stop, by its kind.
use Rattle.std.proofs.Common.{ap, sym, arith, Some, ◌∷◌, ◌∙◌}
use Rattle.std.specs.Prelude.{option_map, slice_get}
use Rattle.trace_script.specs.Kept.{fill_of, image_of, step_of}
use Rattle.trace_options.specs.declared.options.TheConstants.Options.{TRACECLONE, TRACEEXEC, TRACEFORK}
use Rattle.trace_record.specs.declared.stop.Stop.TheVariants as stop
use Rattle.trace_script.specs.Script as step
use Rattle.trace_script.specs.StepStops.{Becomes, ByOption, Halts, Stores, answers}
use Rattle.trace_script.proofs.StepActs.{after_exec, after_call, after_plain_call}
use Rattle.trace_script.proofs.Steps.{get_later}
use Rattle.trace_script.proofs.step.step_acts.act_after_filter.Goals as goal

pub returns-in_default : goal.returns-in_default
returns-in_default g c = λ filled. c.act_of_answer.ensures filled (step_of filled c.args.step.now)
    ∙ ap (option_map Some) (sym (get_later (Stores (fill_of filled c.in-Some.fill)) (answers c.in-Call.call.answer)
    c.args.place (omega arith))
    ∙ ap (λ acts. slice_get acts c.args.place)
    (sym (after_call c.args.setting.now filled c.args.step.now c.in-Call.call c.in-Some.fill c.in-Call.is
    c.in-Some.is)))

pub returns-in-None : goal.returns-in-None
returns-in-None g c = λ filled. c.act_of_answer-in-None.ensures filled (step_of filled c.args.step.now)
    ∙ ap (λ acts. option_map Some (slice_get acts c.args.place))
    (sym (after_plain_call c.args.setting.now filled c.args.step.now c.in-Call.call c.in-Call.is c.in-None.is))

pub returns-in-Fork : goal.returns-in-Fork
returns-in-Fork g c = λ filled.
    rw c.in-Fork.is (c.act_of_event.ensures filled (step.Fork c.in-Fork.child)
    ∙ ap (λ answer. option_map Some (slice_get (Halts (ByOption TRACEFORK) (stop.Fork c.in-Fork.child)
    ∷ answers answer) c.args.place)) c.from.ensures)

pub returns-in-Thread : goal.returns-in-Thread
returns-in-Thread g c = λ filled.
    rw c.in-Thread.is (c.act_of_event-in-Thread.ensures filled (step.Thread c.in-Thread.child)
    ∙ ap (λ answer. option_map Some (slice_get (Halts (ByOption TRACECLONE) (stop.Clone c.in-Thread.child)
    ∷ answers answer) c.args.place)) c.from-in-Thread.ensures)

pub returns-in_default-place : goal.returns-in_default-place
returns-in_default-place g c = λ filled.
    c.act_of_event-in_default-place.ensures filled (step_of filled c.args.step.now)
    ∙ ap (option_map Some) (sym (get_later (Becomes (image_of c.in-Exec.image))
    (Halts (ByOption TRACEEXEC) (stop.Exec c.args.setting.now.tid) ∷ answers 0) c.args.place (omega arith))
    ∙ ap (λ acts. slice_get acts c.args.place)
    (sym (after_exec c.args.setting.now filled c.args.step.now c.in-Exec.path c.in-Exec.image c.in-Exec.is)))
