-- What is left of a script under other options and under another filter, and the children in it.
use Rattle.std.proofs.Common.{refl, ◌≡◌, ◌+◌, ◌∷◌, ◌++◌, [], ℕ, true, false, List, Some, None}
use Rattle.std.proofs.Common.{drop, map, arith, ap, sym, ◌∙◌}
use Rattle.std.proofs.lemmas.List.{drop-map, map-append}
use Rattle.trace_options.specs.declared.filter.Filter.{Filter}
use Rattle.trace_options.specs.declared.options.TheConstants.Options.{TRACEEXEC}
use Rattle.trace_pages.specs.FlatMemory.{FlatMemory}
use Rattle.trace_record.specs.declared.stop.Stop.TheVariants as stop
use Rattle.trace_script.specs.Kept.{image_of, step_of, steps_of}
use Rattle.trace_script.specs.Left.{acts_at, left_by, left_in}
use Rattle.trace_script.specs.Script.{Image, Step}
use Rattle.trace_script.specs.Script as step
use Rattle.trace_script.specs.StepStops.{Act, Halts, Loads, Calls, Becomes, Stores, Answers, Delivers, Exits, Dies}
use Rattle.trace_script.specs.StepStops.{Always, ByOption, Filtered, Traced, act_by, acts_of, acts_of_steps, answers}
use Rattle.trace_script.specs.StepStops.{nr_of, step_arguments}
use Rattle.trace_script.specs.StopNumbers.{IsWithin, stops_in}
use Rattle.trace_script.specs.StopTrace.{position}
use Rattle.trace_script.specs.declared.machine.progress.Progress.{Progress}
use Rattle.trace_script.specs.declared.machine.progress.Progress.TheVariants as progress
use Rattle.trace_script.specs.declared.script.Image.{Image as KeptImage}
use Rattle.trace_script.specs.declared.script.Step.{Step as KeptStep}
use Rattle.trace_script.specs.declared.setting.Setting.{Setting}

-- ---- the acts under another setting of the same tracee are those by its filter

module _ (s t : Setting) (same : t.tid ≡ s.tid) where
  step_by : (step : Step) → acts_of t step ≡ map (act_by t.filter) (acts_of s step)
  step_by (step.Call nr arguments answer None) = refl
  step_by (step.Call nr arguments answer (Some fill)) = refl
  step_by (step.Fork child) = refl
  step_by (step.Thread child) = refl
  step_by (step.Exec path image) =
      ap (λ tid. Calls (nr_of (step.Exec path image)) (step_arguments (step.Exec path image)) ∷ Halts Traced stop.Enter
      ∷ Halts (Filtered (nr_of (step.Exec path image))) (stop.Seccomp t.filter.ret_data) ∷ Becomes image
      ∷ Halts (ByOption TRACEEXEC) (stop.Exec tid) ∷ answers 0) same
  step_by (step.Signal signal true) = refl
  step_by (step.Signal signal false) = refl
  step_by (step.Exit status) = refl

  steps_by : (steps : List Step) → acts_of_steps t steps ≡ map (act_by t.filter) (acts_of_steps s steps)
  unfolding acts_of_steps
  steps_by [] = refl
  steps_by (step ∷ steps) =
      ap (λ acts. acts ++ acts_of_steps t steps) (step_by step)
      ∙ ap (λ acts. map (act_by t.filter) (acts_of s step) ++ acts) (steps_by steps)
      ∙ sym (map-append (act_by t.filter) (acts_of s step) (acts_of_steps s steps))

  in_by : (filled : List ℕ) (steps : List (KeptStep FlatMemory)) (place : ℕ)
      → left_in t filled steps place ≡ map (act_by t.filter) (left_in s filled steps place)
  in_by filled [] place = refl
  in_by filled (step ∷ steps) place =
      ap (λ acts. drop place acts ++ acts_of_steps t (steps_of filled steps)) (step_by (step_of filled step))
      ∙ ap (λ acts. drop place (map (act_by t.filter) (acts_of s (step_of filled step))) ++ acts)
      (steps_by (steps_of filled steps))
      ∙ ap (λ acts. acts ++ map (act_by t.filter) (acts_of_steps s (steps_of filled steps)))
      (drop-map (act_by t.filter) place (acts_of s (step_of filled step)))
      ∙ sym (map-append (act_by t.filter) (acts_at s (step_of filled step) place)
      (acts_of_steps s (steps_of filled steps)))

  pub left_under : (at : Progress) (image : KeptImage FlatMemory) (filled : List ℕ) (steps : List (KeptStep FlatMemory))
      → left_by t at image filled steps ≡ map (act_by t.filter) (left_by s at image filled steps)
  left_under progress.New image filled steps =
      ap (λ acts. Loads (image_of image) ∷ Halts Always stop.Start ∷ acts) (steps_by (steps_of filled steps))
  left_under (progress.Going index place) image filled steps = in_by filled (drop index steps) place
  left_under (progress.Ended death) image filled steps = refl

-- options leave it as it is
pub left_same : (s t : Setting) → t.tid ≡ s.tid → t.filter ≡ s.filter → (at : Progress) (image : KeptImage FlatMemory)
    (filled : List ℕ) (steps : List (KeptStep FlatMemory))
    → left_by t at image filled steps ≡ left_by s at image filled steps
left_same s t same filter at image filled steps =
    left_under s t same at image filled steps
    ∙ ap (λ f. map (act_by f) (left_by s at image filled steps)) filter
    ∙ sym (left_under s s refl at image filled steps)

-- ---- and make as many stops

stops_by : (filter : Filter) (acts : List Act) → stops_in (map (act_by filter) acts) ≡ stops_in acts
stops_by filter [] = refl
stops_by filter (Halts when at ∷ acts) = ap (λ n. n + 1) (stops_by filter acts)
stops_by filter (Loads image ∷ acts) = stops_by filter acts
stops_by filter (Calls nr arguments ∷ acts) = stops_by filter acts
stops_by filter (Becomes image ∷ acts) = stops_by filter acts
stops_by filter (Stores fill ∷ acts) = stops_by filter acts
stops_by filter (Answers answer ∷ acts) = stops_by filter acts
stops_by filter (Delivers ∷ acts) = ap (λ n. n + 1) (stops_by filter acts)
stops_by filter (Exits death ∷ acts) = ap (λ n. n + 1) (stops_by filter acts)
stops_by filter (Dies death ∷ acts) = stops_by filter acts

pub within_under : (most number : ℕ) (s t : Setting) → t.tid ≡ s.tid → (at : Progress) (image : KeptImage FlatMemory)
    (filled : List ℕ) (steps : List (KeptStep FlatMemory))
    → IsWithin most (position s number (left_by s at image filled steps))
    → IsWithin most (position t number (left_by t at image filled steps))
within_under most number s t same at image filled steps within =
    let stops : stops_in (left_by t at image filled steps) ≡ stops_in (left_by s at image filled steps) =
    ap stops_in (left_under s t same at image filled steps) ∙ stops_by t.filter (left_by s at image filled steps) in
    omega (arith, within, stops)
