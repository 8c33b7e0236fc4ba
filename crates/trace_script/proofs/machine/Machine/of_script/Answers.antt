-- A script has few enough steps, and the copy is the same script.
use Rattle.std.proofs.Common.{List, ap, ◌∙◌}
use Rattle.trace_script.specs.Kept.{image_of, steps_of}
use Rattle.trace_script.specs.Script.{Image, Script, Step}
use Rattle.trace_script.specs.StopTrace.{opening_position}
use Rattle.trace_script.proofs.StopNumbers.{new_within}
use Rattle.trace_script.proofs.machine.Machine.of_script.Goals as goal

pub invariant_of-result : goal.invariant_of-result
invariant_of-result g c =
    let filled = c.in_ok-filled.filled.items in
    new_within c.args.setting c.in_ok-image.image filled c.in_ok-steps.steps.items c.args.script.now.steps.items
    (c.in_ok-steps.ensures filled ∙ ap (steps_of filled) c.as_slice.ensures.value) c.requires

pub returns : goal.returns
returns g c =
    let filled = c.in_ok-filled.filled.items in
    let steps = steps_of filled c.in_ok-steps.steps.items in
    let script : Image → List Step → Script = λ image steps. record { image = image; steps = steps } in
    ap (opening_position c.args.setting)
    (ap (λ image. script image steps) c.in_ok-image.ensures
    ∙ ap (script (image_of c.args.script.now.image))
    (c.in_ok-steps.ensures filled
    ∙ ap (steps_of filled) c.as_slice.ensures.value
    ∙ ap (λ b. steps_of b c.args.script.now.steps.items) (c.in_ok-filled.ensures.items ∙ c.as_slice-2.ensures.value)))
