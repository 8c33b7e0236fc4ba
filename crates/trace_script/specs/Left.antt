-- The acts that are left of a script at a place in it.
use Rattle.std.specs.Prelude.{◌∷◌, ◌++◌, [], ℕ, List, drop}
use Rattle.trace_pages.specs.FlatMemory.{FlatMemory}
use Rattle.trace_script.specs.Kept.{image_of, step_of, steps_of}
use Rattle.trace_script.specs.Script.{Step}
use Rattle.trace_script.specs.StepStops.{Act, Dies, acts_of, acts_of_script, acts_of_steps, last_acts}
use Rattle.trace_script.specs.declared.machine.progress.Progress.{Progress}
use Rattle.trace_script.specs.declared.machine.progress.Progress.TheVariants as progress
use Rattle.trace_script.specs.declared.script.Image.{Image as KeptImage}
use Rattle.trace_script.specs.declared.script.Step.{Step as KeptStep}
use Rattle.trace_script.specs.declared.setting.Setting.{Setting}

-- the acts that are left of a step at a place in it: the place is the number of acts before it
abbrev pub acts_at : Setting → Step → (place : ℕ) → List Act
acts_at s step place = drop place (acts_of s step)

-- no step has more acts than an exec
abbrev pub most_acts : ℕ
most_acts = 7

-- those that are left of steps, from a place in the first one on; where no step is left, the tracee exits
abbrev pub left_in : Setting → (filled : List ℕ) → List (KeptStep FlatMemory) → (place : ℕ) → List Act
left_in s filled [] place = last_acts
left_in s filled (step ∷ steps) place =
    acts_at s (step_of filled step) place ++ acts_of_steps s (steps_of filled steps)

-- those that are left of a machine's script, by how far it is
abbrev pub left_by : Setting → Progress → KeptImage FlatMemory → (filled : List ℕ) → List (KeptStep FlatMemory)
    → List Act
left_by s progress.New image filled steps =
    acts_of_script s (record { image = image_of image; steps = steps_of filled steps })
left_by s (progress.Going index place) image filled steps = left_in s filled (drop index steps) place
left_by s (progress.Ended death) image filled steps = Dies death ∷ []
