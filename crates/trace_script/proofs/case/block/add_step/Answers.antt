-- One more step is counted, and its bytes are added to those of the steps before it.
use Rattle.std.proofs.Common.{◌≡◌, ◌∙◌, ◌+◌, ◌++◌, ◌∷◌, [], List, ap, arith}
use Rattle.std.proofs.lemmas.List.{length-map}
use Rattle.trace_script.specs.Kept.{image_of, step_of, steps_of}
use Rattle.trace_script.specs.OpenBlock.{filled_by}
use Rattle.trace_script.specs.RawLine.{step_said}
use Rattle.trace_script.specs.Script.{Script, Step}
use Rattle.trace_script.proofs.OpenBlocks.{counted_births, few_births, kept_more, memory_more, still_whole}
use Rattle.trace_script.proofs.case.block.add_step.Goals as goal

pub overflow_add-block : goal.overflow_add-block
overflow_add-block g c =
    let items = c.args.block.now.script.steps.items in
    let filled = c.args.block.now.script.filled.items in
    let few = few_births (steps_of filled items) in
    let size = length-map items (step_of filled) in
    omega (arith, few, size, c.requires.counted.births, c.requires.room, c.births_of.ensures.few)

pub returns-clause-steps : goal.returns-clause-steps
returns-clause-steps g c =
    let old = c.args.block.now.script in
    let filled = old.filled.items in
    let all = c.keep_step.new.filled.items in
    let said = step_said c.args.step in
    let after = kept_more filled (filled_by said) all old.steps.items c.push.new.self.items c.in_ok-kept.kept said
    c.in_ok-kept.ensures.filled c.in_ok-push.ensures.items c.requires.counted.whole c.in_ok-kept.ensures.step in
    let script_with : List Step → Script = λ steps. record { image = image_of old.image; steps = steps } in
    ap script_with after

pub returns-clause-counted : goal.returns-clause-counted
returns-clause-counted g c =
    let old = c.args.block.now.script in
    let filled = old.filled.items in
    let all = c.keep_step.new.filled.items in
    let new = c.push.new.self.items in
    let said = step_said c.args.step in
    let before : List Step = steps_of filled old.steps.items in
    let after : steps_of all new ≡ before ++ said ∷ [] =
    kept_more filled (filled_by said) all old.steps.items new c.in_ok-kept.kept said c.in_ok-kept.ensures.filled
    c.in_ok-push.ensures.items c.requires.counted.whole c.in_ok-kept.ensures.step in
    record {
      memory = memory_more (image_of old.image) c.args.block.now.memory c.put_in_force.new.memory before
          (steps_of all new) said c.requires.counted.memory c.put_in_force.ensures after;
      births = ap (λ n. c.args.block.now.births + n) c.births_of.ensures.births
          ∙ counted_births c.args.block.now.births before (steps_of all new) said c.requires.counted.births after;
      whole = still_whole filled (filled_by said) all old.steps.items new c.in_ok-kept.kept said
          c.in_ok-kept.ensures.filled c.in_ok-push.ensures.items c.requires.counted.whole c.in_ok-kept.ensures.step;
    }
