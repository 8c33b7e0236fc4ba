-- The act at the place is the next of those that are left, or the step has no more.
use Rattle.std.proofs.Common.{get_or}
use Rattle.trace_script.specs.Kept.{step_of}
use Rattle.trace_script.specs.KeptActs.{act_in}
use Rattle.trace_script.specs.StopTrace.{context_of}
use Rattle.trace_script.proofs.Steps.{act_next, act_none, within_acts}
use Rattle.trace_script.proofs.step.steps_run.run_here.Goals as goal

pub returns-in-Some-clause-outcome : goal.returns-in-Some-clause-outcome
returns-in-Some-clause-outcome g c =
    let walk = c.args.walk.now in
    let filled = walk.filled.now in
    let step = c.index-steps-index.result in
    let old = step_of filled (get_or c.args.steps.now c.args.index step) in
    act_next walk.setting.now walk.how filled c.args.steps.now c.args.index step c.run_act.new.step c.args.place
    (act_in filled old c.in-Some.act) c.run_act.result c.run_act.new.held.stop (context_of c.args.held.now)
    (context_of c.run_act.new.held) c.requires (c.in-Some.ensures filled) c.run_act.ensures.effect
    c.run_act.ensures.stays c.run_act.ensures.exits c.run_act.ensures.rest

pub returns-in-Some-clause-few : goal.returns-in-Some-clause-few
returns-in-Some-clause-few g c = λ some.
    let filled = c.args.walk.now.filled.now in
    let step = step_of filled (get_or c.args.steps.now c.args.index c.index-steps-index.result) in
    within_acts c.args.walk.now.setting.now step c.args.place (act_in filled step c.in-Some.act)
    (c.in-Some.ensures filled)

pub returns-in-None-clause-outcome : goal.returns-in-None-clause-outcome
returns-in-None-clause-outcome g c =
    let walk = c.args.walk.now in
    let step = c.index-steps-index.result in
    act_none walk.setting.now walk.how walk.filled.now c.args.steps.now c.args.index step
    (get_or c.args.steps.now c.args.index step) c.args.place c.args.held.now.stop (context_of c.args.held.now)
    c.requires (c.in-None.ensures walk.filled.now)
