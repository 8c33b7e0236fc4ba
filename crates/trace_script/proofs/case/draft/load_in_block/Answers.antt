-- A part of an image is not a step.
use Rattle.std.proofs.Common.{List, sym, subst, ℕ}
use Rattle.trace_script.specs.CaseFile.{part_of_script, with_script}
use Rattle.trace_script.specs.Draft.{reading_of}
use Rattle.trace_script.specs.Kept.{script_by, script_of}
use Rattle.trace_script.specs.RawLine.{part_said}
use Rattle.trace_script.specs.Reading.{TakesLine}
use Rattle.trace_script.proofs.Images.{takes_part}
use Rattle.trace_script.proofs.Reloads.{still_counted}
use Rattle.trace_script.proofs.case.draft.load_in_block.Goals as goal

pub returns-clause-line : goal.returns-clause-line
returns-clause-line g c =
    let old = c.args.draft.now.block.script in
    let new = c.load_part.new.script in
    let read = part_of_script (script_of old) (part_said c.args.part) in
    let Taken : List ℕ → Type 0 = λ filled. TakesLine c.load_part.result (script_by filled new) read in
    takes_part (with_script (reading_of c.args.draft.now)) c.load_part.result (script_of new) read
    (subst Taken (sym c.load_part.ensures.filled) (c.load_part.ensures.script old.filled.items))

pub returns-clause-counted : goal.returns-clause-counted
returns-clause-counted g c =
    still_counted c.load_part.result c.args.draft.now.block c.load_part.new.script c.load_part.new.memory
    (part_said c.args.part) c.requires.counted c.load_part.ensures.script c.load_part.ensures.filled
    c.load_part.ensures.in_force
