-- The block that is open while a file is read, as the program keeps it: the pages of the image in force, on which lines
-- are tested, how many births it has counted, and that each of its fills has all its bytes.
use Rattle.std.specs.Prelude.{◌≡◌, ◌<◌, ◌++◌, [], ℕ, List, length, Option, Some, None}
use Rattle.trace_pages.specs.FlatMemory.{FlatMemory}
use Rattle.trace_script.specs.declared.case.block.Block.{Block}
use Rattle.trace_script.specs.declared.case.raw_line.RawStep.{RawStep}
use Rattle.trace_script.specs.declared.case.raw_line.RawStep.TheVariants as raw_step
use Rattle.trace_script.specs.declared.script.Step.{Step as KeptStep}
use Rattle.trace_script.specs.declared.script.Step.TheVariants as kept
use Rattle.trace_script.specs.CaseFile.{born_by, in_force}
use Rattle.trace_script.specs.Kept.{script_of, steps_of}
use Rattle.trace_script.specs.Script.{Fill, Step}
use Rattle.trace_script.specs.Script as step

pub record IsCounted {Z : Type 0} (block : Block Z) : Type 0 where
  pub memory : block.memory ≡ (in_force (script_of block.script).image (script_of block.script).steps).memory
  pub births : block.births ≡ length (born_by (script_of block.script).steps)
  -- the fills that are kept have all their bytes, so that bytes that are added later are none of theirs
  pub whole : (more : List ℕ) → steps_of (block.script.filled.items ++ more) block.script.steps.items
      ≡ (script_of block.script).steps

-- a signal of a step that has no fault is a byte
abbrev pub IsSmallStep : RawStep → Type 0
IsSmallStep (raw_step.Signal signal deadly) = signal < 256
IsSmallStep other = Unit {0}

-- the memory in force after a step that is kept: that of an exec's image, or else the one before
abbrev pub kept_after : FlatMemory → KeptStep FlatMemory → FlatMemory
kept_after memory (kept.Exec path image) = image.memory
kept_after memory other = memory

-- the bytes that a step writes
abbrev pub fill_bytes : Option Fill → List ℕ
fill_bytes None = []
fill_bytes (Some fill) = fill.bytes

abbrev pub filled_by : Step → List ℕ
filled_by (step.Call nr arguments answer fill) = fill_bytes fill
filled_by other = []
