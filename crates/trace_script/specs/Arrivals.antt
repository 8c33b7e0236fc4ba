-- Where an act, or acts in a row, lead: what the program answers, as an effect or an outcome.
use Rattle.std.specs.Prelude.{◌∷◌, [], ℕ, List, Option, Some, None, drop}
use Rattle.trace_pages.specs.FlatMemory.{FlatMemory}
use Rattle.trace_record.specs.declared.death.Death.{Death}
use Rattle.trace_record.specs.declared.resume.Resume.{Resume}
use Rattle.trace_record.specs.declared.stop.Stop.{Stop}
use Rattle.trace_script.specs.Left.{left_in}
use Rattle.trace_script.specs.StepStops.{Act, Exits}
use Rattle.trace_script.specs.StopTrace.{Context, Effect, Stops, GoesOn, Faults, exit_effect}
use Rattle.trace_script.specs.StopTrace.{Outcome, Stopped, Faulted, advance}
use Rattle.trace_script.specs.declared.script.Step.{Step as KeptStep}
use Rattle.trace_script.specs.declared.setting.Setting.{Setting}
use Rattle.trace_script.specs.declared.step.effect.Effect.{Effect as KeptEffect}
use Rattle.trace_script.specs.declared.step.effect.Effect.TheVariants as kept
use Rattle.trace_script.specs.declared.step.effect.Reached.{Reached}
use Rattle.trace_script.specs.declared.step.effect.Reached.TheVariants as reached_at

-- one act
abbrev pub effect_by : Setting → KeptEffect → Stop → Context → Effect
effect_by s kept.Stops stop x = Stops stop
effect_by s kept.GoesOn stop x = GoesOn x
effect_by s (kept.Exits death) stop x = exit_effect s death
effect_by s (kept.Faults address) stop x = Faults address

-- an exit, after which no act is reached
abbrev pub exit_outcome : Setting → Resume → Death → Context → Outcome
exit_outcome s how death x = advance s how (Exits death ∷ []) x

-- an act that was done, and the acts after it
abbrev pub act_outcome : Setting → Resume → KeptEffect → List Act → Stop → Context → Outcome
act_outcome s how kept.Stops acts stop x = Stopped acts stop x
act_outcome s how kept.GoesOn acts stop x = advance s how acts x
act_outcome s how (kept.Exits death) acts stop x = exit_outcome s how death x
act_outcome s how (kept.Faults address) acts stop x = Faulted address

-- the next act of a step and the acts after it, or where the step has no more, the steps after it
abbrev pub next_outcome : Setting → Resume → Option KeptEffect → (acts steps : List Act) → Stop → Context → Outcome
next_outcome s how None acts steps stop x = advance s how steps x
next_outcome s how (Some effect) acts steps stop x = act_outcome s how effect acts stop x

-- steps in a row
abbrev pub reached : Setting → Resume → Reached → (filled : List ℕ) → List (KeptStep FlatMemory) → Stop → Context
    → Outcome
reached s how (reached_at.Stopped index place) filled steps stop x =
    Stopped (left_in s filled (drop index steps) place) stop x
reached s how (reached_at.AtExit death) filled steps stop x = exit_outcome s how death x
reached s how (reached_at.Faulted address) filled steps stop x = Faulted address
