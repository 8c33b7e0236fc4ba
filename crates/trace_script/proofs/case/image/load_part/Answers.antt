-- The last step's image gets the part, and the memory stays the one in force.
use Rattle.std.proofs.Common.{◌≡◌, ◌∙◌, ◌+◌, ◌-◌, List, OnOk, ap, arith, get_or, length, set, subst, sym, take}
use Rattle.std.proofs.lemmas.List.{length-map, map-set}
use Rattle.std.proofs.Math.ListN.{get_or-map}
use Rattle.trace_pages.specs.FlatMemory.{FlatMemory}
use Rattle.trace_script.specs.CaseFile.{in_force, part_of_script, part_of_step}
use Rattle.trace_script.specs.Kept.{image_of, step_of, steps_of}
use Rattle.trace_script.specs.OpenBlock.{kept_after}
use Rattle.trace_script.specs.RawLine.{part_said}
use Rattle.trace_script.specs.Reading.{TakesLine}
use Rattle.trace_script.specs.Script.{Script, Step}
use Rattle.trace_script.proofs.Images.{part_at_last, script_with, takes_part}
use Rattle.trace_script.proofs.OpenBlocks.{kept_twice, memory_at_last, memory_by_last, no_step_yet}
use Rattle.trace_script.proofs.case.image.load_part.Goals as goal

pub returns-clause-script : goal.returns-clause-script
returns-clause-script g c filled =
    let image = image_of c.args.script.now.image in
    let items = c.args.script.now.steps.items in
    let steps : List Step = steps_of filled items in
    let i = c.len-count.result - 1 in
    let last : Step = step_of filled c.index_mut.result.now in
    let part = part_said c.args.part in
    let end : i + 1 ≡ length steps =
    omega (
      arith,
      c.len-count.ensures,
      c.if-count-eq0.false,
      length-map items (step_of filled),
      c.args.script.now.steps.ok.0,
    ) in
    let is : last ≡ get_or steps i last =
    ap (step_of filled) c.index_mut.ensures.value ∙ sym (get_or-map (step_of filled) items i c.index_mut.result.now) in
    let Taken : Script → Type 0 =
    λ s. TakesLine c.load_in_step.result s (part_of_script (script_with image steps) part) in
    subst Taken (ap (script_with image) (sym (map-set (step_of filled) items i c.load_in_step.new.step)))
    (rw (part_at_last image steps i last part end is)
    (takes_part (λ new. script_with image (set steps i new)) c.load_in_step.result
    (step_of filled c.load_in_step.new.step) (part_of_step last part) (c.load_in_step.ensures.step filled)))

pub load_in_image-requires-clause-in_force : goal.load_in_image-requires-clause-in_force
load_in_image-requires-clause-in_force g c =
    let script = c.args.script.now in
    c.requires.in_force
    ∙ no_step_yet (image_of script.image) script.filled.items script.steps.items
    (omega (arith, c.len-count.ensures, c.if-count-eq0.true, script.steps.ok.0))

pub returns-then-count-eq0-clause-in_force : goal.returns-then-count-eq0-clause-in_force
returns-then-count-eq0-clause-in_force g c =
    let script = c.args.script.now in
    let now : FlatMemory → Type 0 = λ m. OnOk c.load_in_image.result (c.load_in_image.new.memory ≡ m) in
    subst now
    (sym (no_step_yet (image_of c.load_in_image.new.image) script.filled.items script.steps.items
    (omega (arith, c.len-count.ensures, c.if-count-eq0.true, script.steps.ok.0))))
    c.load_in_image.ensures.in_force

pub load_in_step-requires-clause-in_force : goal.load_in_step-requires-clause-in_force
load_in_step-requires-clause-in_force g c =
    let script = c.args.script.now in
    let image = image_of script.image in
    let filled = script.filled.items in
    let items = script.steps.items in
    let i = c.len-count.result - 1 in
    let last = c.index_mut.result.now in
    let before = (in_force image (steps_of filled (take i items))).memory in
    let end : i + 1 ≡ length items = omega (arith, c.len-count.ensures, c.if-count-eq0.false, script.steps.ok.0) in
    let is = memory_by_last image filled items i last c.args.memory.now end c.index_mut.ensures.value c.requires.in_force in
    is ∙ kept_twice before last ∙ ap (λ (m : FlatMemory). kept_after m last) (sym is)

pub returns-clause-in_force : goal.returns-clause-in_force
returns-clause-in_force g c =
    let script = c.args.script.now in
    let image = image_of script.image in
    let filled = script.filled.items in
    let items = script.steps.items in
    let i = c.len-count.result - 1 in
    let before = (in_force image (steps_of filled (take i items))).memory in
    let end : i + 1 ≡ length items = omega (arith, c.len-count.ensures, c.if-count-eq0.false, script.steps.ok.0) in
    let now : FlatMemory → Type 0 = λ m. OnOk c.load_in_step.result (c.load_in_step.new.memory ≡ m) in
    subst now (sym (memory_at_last image filled items i c.load_in_step.new.step end))
    (c.load_in_step.ensures.in_force before
    (memory_by_last image filled items i c.index_mut.result.now c.args.memory.now end c.index_mut.ensures.value
    c.requires.in_force))
