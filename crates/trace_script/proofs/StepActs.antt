-- The acts of a step as the program keeps it, by its kind.
use Rattle.std.proofs.Common.{refl, ◌≡◌, ◌∷◌, ℕ, Bool, List, Some, None}
use Rattle.trace_pages.specs.FlatMemory.{FlatMemory}
use Rattle.trace_record.specs.declared.stop.Stop.TheVariants as stop
use Rattle.trace_script.specs.Kept.{fill_of, image_of, step_of}
use Rattle.trace_script.specs.StepStops.{Becomes, ByOption, Halts, Stores, acts_of, after_filter, answers, call_acts}
use Rattle.trace_options.specs.declared.options.TheConstants.Options.{TRACEEXEC}
use Rattle.trace_script.specs.declared.script.Call.{Call as KeptCall}
use Rattle.trace_script.specs.declared.script.Fill.{Fill as KeptFill}
use Rattle.trace_script.specs.declared.script.Image.{Image as KeptImage}
use Rattle.trace_script.specs.declared.script.Step.{Step as KeptStep}
use Rattle.trace_script.specs.declared.script.Step.TheVariants as kept
use Rattle.trace_script.specs.declared.setting.Setting.{Setting}

pub after_call : (s : Setting) (filled : List ℕ) (step : KeptStep FlatMemory) (call : KeptCall) (fill : KeptFill)
    → step ≡ kept.Call call → call.fill ≡ Some fill
    → after_filter s (step_of filled step) ≡ Stores (fill_of filled fill) ∷ answers call.answer
after_call s filled step call fill is some = rw (is, some) refl

pub after_plain_call : (s : Setting) (filled : List ℕ) (step : KeptStep FlatMemory) (call : KeptCall)
    → step ≡ kept.Call call → call.fill ≡ None → after_filter s (step_of filled step) ≡ answers call.answer
after_plain_call s filled step call is none = rw (is, none) refl

pub after_exec : (s : Setting) (filled : List ℕ) (step : KeptStep FlatMemory) (path : ℕ) (image : KeptImage FlatMemory)
    → step ≡ kept.Exec path image
    → after_filter s (step_of filled step)
    ≡ Becomes (image_of image) ∷ Halts (ByOption TRACEEXEC) (stop.Exec s.tid) ∷ answers 0
after_exec s filled step path image is = rw is refl

-- each step but a signal is a call
pub calls_act : (s : Setting) (filled : List ℕ) (step : KeptStep FlatMemory)
    → ((signal : ℕ) (deadly : Bool) → step ≡ kept.Signal signal deadly → ⊥)
    → acts_of s (step_of filled step) ≡ call_acts s (step_of filled step)
calls_act s filled (kept.Signal signal deadly) other = absurd (other signal deadly refl)
calls_act s filled (kept.Call call) other = refl
calls_act s filled (kept.Fork child) other = refl
calls_act s filled (kept.Thread child) other = refl
calls_act s filled (kept.Exec path image) other = refl
calls_act s filled (kept.Exit status) other = refl
