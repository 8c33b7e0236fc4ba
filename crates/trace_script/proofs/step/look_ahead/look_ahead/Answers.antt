-- The act at the place is the next of those that are left, or the step has no more.
use Rattle.std.proofs.Common.{◌≡◌, ◌∙◌, ◌+◌, None, Some, ap, arith, drop, subst, sym}
use Rattle.std.specs.Prelude.{option_map, slice_get}
use Rattle.std.proofs.lemmas.Result.{err_from_is_err_and}
use Rattle.text_lines.specs.Ranges.{◌>>=◌}
use Rattle.trace_script.specs.Kept.{seen, step_of}
use Rattle.trace_script.specs.KeptActs.{act_in}
use Rattle.trace_script.specs.Left.{left_in}
use Rattle.trace_script.specs.LookAhead.{look_over}
use Rattle.trace_script.specs.StepStops.{acts_of}
use Rattle.trace_script.proofs.Steps.{IsAct, look_next, look_none, within_acts}
use Rattle.trace_script.proofs.step.look_ahead.look_ahead.Goals as goal

pub overflow_add-at : goal.overflow_add-at
overflow_add-at g c =
    let filled = c.args.walk.now.filled.now in
    let step = step_of filled c.index-steps-index.result in
    omega (
      arith,
      within_acts c.args.walk.now.setting.now step c.loop-index.at (act_in filled step c.in-Some.act)
          (c.in-Some.ensures filled),
    )

pub loop-index-smaller-in-Some : goal.loop-index-smaller-in-Some
loop-index-smaller-in-Some g c =
    let filled = c.args.walk.now.filled.now in
    let step = step_of filled c.index-steps-index.result in
    omega (
      arith,
      within_acts c.args.walk.now.setting.now step c.loop-index.at (act_in filled step c.in-Some.act)
          (c.in-Some.ensures filled),
    )

pub returns-in_err-now-in-Some : goal.returns-in_err-now-in-Some
returns-in_err-now-in-Some g c =
    let walk = c.args.walk.now in
    let s = walk.setting.now in
    let filled = walk.filled.now in
    let step = c.index-steps-index.result in
    let said = act_in filled (step_of filled step) c.in-Some.act in
    let at = c.loop-index.at in
    let rest = left_in s filled (drop c.loop-index.index c.args.steps.now) (at + 1) in
    let next = look_next s walk.how filled c.args.steps.now c.loop-index.index step at said (seen c.look_at.result)
    c.loop-index.now.now c.loop-index-test.true
    (subst (λ q. IsAct said (slice_get (acts_of s (step_of filled q)) at)) c.index-steps-index.is
    (c.in-Some.ensures filled)) c.look_at.ensures in
    let came = err_from_is_err_and c.from_residual.result c.from_residual.ensures.1 in
    rw (came.1, came.2)
    (sym (next ∙ ap (λ l. l >>= look_over s walk.how rest) (ap seen c.in_err-now-in-Some.was))
    ∙ c.loop-index.invariant)

pub loop-index-preserved-in-Some : goal.loop-index-preserved-in-Some
loop-index-preserved-in-Some g c =
    let walk = c.args.walk.now in
    let s = walk.setting.now in
    let filled = walk.filled.now in
    let step = c.index-steps-index.result in
    let said = act_in filled (step_of filled step) c.in-Some.act in
    let at = c.loop-index.at in
    let rest = left_in s filled (drop c.loop-index.index c.args.steps.now) (at + 1) in
    let next = look_next s walk.how filled c.args.steps.now c.loop-index.index step at said (seen c.look_at.result)
    c.loop-index.now.now c.loop-index-test.true
    (subst (λ q. IsAct said (slice_get (acts_of s (step_of filled q)) at)) c.index-steps-index.is
    (c.in-Some.ensures filled)) c.look_at.ensures in
    sym (next ∙ ap (λ l. l >>= look_over s walk.how rest) (ap seen c.in_ok-now-in-Some.was))
    ∙ c.loop-index.invariant

pub loop-index-preserved : goal.loop-index-preserved
loop-index-preserved g c =
    let walk = c.args.walk.now in
    let s = walk.setting.now in
    let filled = walk.filled.now in
    sym (look_none s walk.how filled c.args.steps.now c.loop-index.index c.index-steps-index.result c.loop-index.at
    c.loop-index.now.now c.loop-index-test.true
    (subst (λ q. None ≡ option_map Some (slice_get (acts_of s (step_of filled q)) c.loop-index.at))
    c.index-steps-index.is (c.in-None.ensures filled)))
    ∙ c.loop-index.invariant
