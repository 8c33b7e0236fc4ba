-- The acts of a step as the program has them, read as the plain acts.
use Rattle.std.specs.Prelude.{ℕ, List, Option, Some, None, option_map}
use Rattle.trace_script.specs.Kept.{fill_of}
use Rattle.trace_script.specs.Script.{Image, Step}
use Rattle.trace_script.specs.Script as step
use Rattle.trace_script.specs.StepStops.{Act, Halts, Calls, Becomes, Stores, Answers, Delivers, Exits}
use Rattle.trace_script.specs.StepStops.{When, Always, Traced, Filtered, ByOption, step_arguments, nr_of}
use Rattle.trace_script.specs.declared.step.act.Act.{Act as KeptAct}
use Rattle.trace_script.specs.declared.step.act.Act.TheVariants as kept
use Rattle.trace_script.specs.declared.step.act.When.{When as KeptWhen}
use Rattle.trace_script.specs.declared.step.act.When.TheVariants as kept_when

abbrev pub when_in : Step → KeptWhen → When
when_in step kept_when.Always = Always
when_in step kept_when.Traced = Traced
when_in step kept_when.Filtered = Filtered (nr_of step)
when_in step (kept_when.ByOption option) = ByOption option

-- the program that a step, an exec, starts
abbrev pub program_of : Step → Option Image
program_of (step.Exec path image) = Some image
program_of other = None

-- an act of a step; its call and its program are the step's, and the bytes of its fill are among these
abbrev pub act_in : (filled : List ℕ) → Step → KeptAct → Option Act
act_in filled step (kept.Halts when at) = Some (Halts (when_in step when) at)
act_in filled step kept.Calls = Some (Calls (nr_of step) (step_arguments step))
act_in filled step kept.Becomes = option_map Becomes (program_of step)
act_in filled step (kept.Stores fill) = Some (Stores (fill_of filled fill))
act_in filled step (kept.Answers answer) = Some (Answers answer)
act_in filled step kept.Delivers = Some Delivers
act_in filled step (kept.Exits death) = Some (Exits death)
