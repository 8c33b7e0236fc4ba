-- A script as the program keeps it, with vectors, read as the plain data of a script. The memory of an image is in
-- parts or in pages, and is the same flat memory in both.
use Rattle.std.specs.Prelude.{ℕ, List, drop, map, take, Option, Some, None, Result}
use denote.Ref.{Bor}
use Rattle.text_lines.specs.Ranges.{if_said}
use Rattle.trace_pages.specs.FlatMemory.{FlatMemory}
use Rattle.trace_script.specs.Script.{Fill, Image, Script, Step}
use Rattle.trace_script.specs.Script as step
use Rattle.trace_script.specs.declared.script.Fill.{Fill as KeptFill}
use Rattle.trace_script.specs.declared.script.Image.{Image as KeptImage}
use Rattle.trace_script.specs.declared.script.Script.{Script as KeptScript}
use Rattle.trace_script.specs.declared.script.Step.{Step as KeptStep}
use Rattle.trace_script.specs.declared.script.Step.TheVariants as kept

abbrev pub image_of : KeptImage FlatMemory → Image
image_of image = record { memory = image.memory; rip = image.rip; rsp = image.rsp }

-- the bytes of a fill are among those of all fills of its script
abbrev pub fill_of : (filled : List ℕ) → KeptFill → Fill
fill_of filled fill = record { address = fill.addr; bytes = take fill.len (drop fill.start filled) }

abbrev pub fill_in : (filled : List ℕ) → Option KeptFill → Option Fill
fill_in filled None = None
fill_in filled (Some fill) = Some (fill_of filled fill)

abbrev pub step_of : (filled : List ℕ) → KeptStep FlatMemory → Step
step_of filled (kept.Call call) = step.Call call.nr call.args call.answer (fill_in filled call.fill)
step_of filled (kept.Fork child) = step.Fork child
step_of filled (kept.Thread child) = step.Thread child
step_of filled (kept.Exec path image) = step.Exec path (image_of image)
step_of filled (kept.Signal signal deadly) = step.Signal signal deadly
step_of filled (kept.Exit status) = step.Exit status

abbrev pub steps_of : (filled : List ℕ) → List (KeptStep FlatMemory) → List Step
steps_of filled steps = map (step_of filled) steps

-- a script whose fills have their bytes among these
abbrev pub script_by : {Z : Type 0} → (filled : List ℕ) → KeptScript Z → Script
script_by filled script = record { image = image_of script.image; steps = steps_of filled script.steps.items }

abbrev pub script_of : {Z : Type 0} → KeptScript Z → Script
script_of script = script_by script.filled.items script

-- what a returned reference points to
abbrev pub seen : {T E : Type 0} → Result (Bor T) E → Result T E
seen r = if_said (λ x. x.now) r
