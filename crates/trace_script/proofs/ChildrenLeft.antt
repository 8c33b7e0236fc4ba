-- The children that are left of a script: those of its steps, but for the step underway once its birth is over.
use Rattle.std.proofs.Common.{refl, ◌≡◌, ◌+◌, ◌≤◌, ◌<◌, ◌∷◌, ◌++◌, [], ℕ, zero, suc, List, Some, None}
use Rattle.std.proofs.Common.{Bool, true, false}
use Rattle.std.proofs.Common.{Option, length, drop, arith, ap, ◌∙◌}
use Rattle.std.specs.List.{cons_option}
use Rattle.std.proofs.lemmas.List.Elements.{filter_map-append}
use Rattle.trace_options.specs.declared.options.Options.{Options}
use Rattle.trace_options.specs.declared.options.TheConstants.Options.{TRACECLONE, TRACEEXEC, TRACEFORK}
use Rattle.trace_pages.specs.FlatMemory.{FlatMemory}
use Rattle.trace_record.specs.Stop.{child_of}
use Rattle.trace_record.specs.declared.stop.Stop.{Stop}
use Rattle.trace_record.specs.declared.stop.Stop.TheVariants as stop
use Rattle.trace_script.specs.Births.{born_by, child_at, children_left, children_of, children_reported}
use Rattle.trace_script.specs.Births.{ReportsBirths, reported_if, with_child}
use Rattle.trace_script.specs.Kept.{step_of, steps_of}
use Rattle.trace_script.specs.Left.{acts_at, left_by, left_in}
use Rattle.trace_script.specs.Script.{Step}
use Rattle.trace_script.specs.Script as step
use Rattle.trace_script.specs.StepStops.{Act, Halts, Loads, Calls, Becomes, Stores, Answers, Delivers, Exits, Dies}
use Rattle.trace_script.specs.StepStops.{ByOption, acts_of, acts_of_steps, after_filter, answers, call_acts, has_option}
use Rattle.trace_script.specs.StopNumbers.{stops_in}
use Rattle.trace_script.specs.declared.machine.progress.Progress.{Progress}
use Rattle.trace_script.specs.declared.machine.progress.Progress.TheVariants as progress
use Rattle.trace_script.specs.declared.script.Image.{Image as KeptImage}
use Rattle.trace_script.specs.declared.script.Step.{Step as KeptStep}
use Rattle.trace_script.specs.declared.setting.Setting.{Setting}

-- ---- a step

rest_none : (child : Option ℕ) (children : List ℕ) → cons_option child children ≡ [] → children ≡ []
rest_none None children none = none
rest_none (Some child) children none = cc

-- where no child is left, none is after more acts
none_later : (place : ℕ) (acts : List Act) → children_left acts ≡ [] → children_left (drop place acts) ≡ []
none_later zero acts none = none
none_later (suc place) [] none = refl
none_later (suc place) (act ∷ acts) none = none_later place acts (rest_none (child_at act) (children_left acts) none)

created_call : (s : Setting) (step : Step) → children_left (after_filter s step) ≡ children_of step
created_call s (step.Call nr arguments answer None) = refl
created_call s (step.Call nr arguments answer (Some fill)) = refl
created_call s (step.Fork child) = refl
created_call s (step.Thread child) = refl
created_call s (step.Exec path image) = refl
created_call s (step.Signal signal deadly) = refl
created_call s (step.Exit status) = refl

coming_in : (s : Setting) (step : Step) (place : ℕ) → place ≤ 3
    → children_left (drop place (call_acts s step)) ≡ children_of step
coming_in s step zero early = created_call s step
coming_in s step (suc zero) early = created_call s step
coming_in s step (suc (suc zero)) early = created_call s step
coming_in s step (suc (suc (suc zero))) early = created_call s step
coming_in s step (suc (suc (suc (suc place)))) early = absurd (omega (arith, early))

passed_in : (s : Setting) (step : Step) (place : ℕ) → 3 < place → children_left (drop place (call_acts s step)) ≡ []
passed_in s step zero late = absurd (omega (arith, late))
passed_in s step (suc zero) late = absurd (omega (arith, late))
passed_in s step (suc (suc zero)) late = absurd (omega (arith, late))
passed_in s step (suc (suc (suc zero))) late = absurd (omega (arith, late))
passed_in s (step.Call nr arguments answer None) (suc (suc (suc (suc place)))) late =
    none_later (suc place) (after_filter s (step.Call nr arguments answer None)) refl
passed_in s (step.Call nr arguments answer (Some fill)) (suc (suc (suc (suc place)))) late =
    none_later (suc place) (after_filter s (step.Call nr arguments answer (Some fill))) refl
passed_in s (step.Fork child) (suc (suc (suc (suc place)))) late = none_later place (answers child) refl
passed_in s (step.Thread child) (suc (suc (suc (suc place)))) late = none_later place (answers child) refl
passed_in s (step.Exec path image) (suc (suc (suc (suc place)))) late =
    none_later (suc place) (after_filter s (step.Exec path image)) refl
passed_in s (step.Signal signal deadly) (suc (suc (suc (suc place)))) late = none_later (suc place) [] refl
passed_in s (step.Exit status) (suc (suc (suc (suc place)))) late =
    none_later (suc place) (after_filter s (step.Exit status)) refl

coming : (s : Setting) (step : Step) (place : ℕ) → place ≤ 3
    → children_left (acts_at s step place) ≡ children_of step
coming s (step.Call nr arguments answer fill) place early = coming_in s (step.Call nr arguments answer fill) place early
coming s (step.Fork child) place early = coming_in s (step.Fork child) place early
coming s (step.Thread child) place early = coming_in s (step.Thread child) place early
coming s (step.Exec path image) place early = coming_in s (step.Exec path image) place early
coming s (step.Signal signal true) place early = none_later place (acts_of s (step.Signal signal true)) refl
coming s (step.Signal signal false) place early = none_later place (acts_of s (step.Signal signal false)) refl
coming s (step.Exit status) place early = coming_in s (step.Exit status) place early

passed : (s : Setting) (step : Step) (place : ℕ) → 3 < place → children_left (acts_at s step place) ≡ []
passed s (step.Call nr arguments answer fill) place late = passed_in s (step.Call nr arguments answer fill) place late
passed s (step.Fork child) place late = passed_in s (step.Fork child) place late
passed s (step.Thread child) place late = passed_in s (step.Thread child) place late
passed s (step.Exec path image) place late = passed_in s (step.Exec path image) place late
passed s (step.Signal signal true) place late = none_later place (acts_of s (step.Signal signal true)) refl
passed s (step.Signal signal false) place late = none_later place (acts_of s (step.Signal signal false)) refl
passed s (step.Exit status) place late = passed_in s (step.Exit status) place late

-- ---- steps

pub created_steps : (s : Setting) (steps : List Step) → children_left (acts_of_steps s steps) ≡ born_by steps
unfolding acts_of_steps
created_steps s [] = refl
created_steps s (step ∷ steps) =
    filter_map-append child_at (acts_of s step) (acts_of_steps s steps)
    ∙ ap (λ children. children ++ children_left (acts_of_steps s steps)) (coming s step 0 (omega arith))
    ∙ ap (λ children. children_of step ++ children) (created_steps s steps)

pub coming_children : (s : Setting) (filled : List ℕ) (steps : List (KeptStep FlatMemory)) (place : ℕ) → place ≤ 3
    → children_left (left_in s filled steps place) ≡ born_by (steps_of filled steps)
coming_children s filled [] place early = refl
coming_children s filled (step ∷ steps) place early =
    filter_map-append child_at (acts_at s (step_of filled step) place) (acts_of_steps s (steps_of filled steps))
    ∙ ap (λ children. children ++ children_left (acts_of_steps s (steps_of filled steps)))
    (coming s (step_of filled step) place early)
    ∙ ap (λ children. children_of (step_of filled step) ++ children) (created_steps s (steps_of filled steps))

pub passed_children : (s : Setting) (filled : List ℕ) (steps : List (KeptStep FlatMemory)) (index place : ℕ)
    → 3 < place → index < length steps
    → children_left (left_in s filled (drop index steps) place) ≡ born_by (steps_of filled (drop (index + 1) steps))
passed_children s filled [] index place late within = absurd (omega (arith, within))
passed_children s filled (step ∷ steps) zero place late within =
    filter_map-append child_at (acts_at s (step_of filled step) place) (acts_of_steps s (steps_of filled steps))
    ∙ ap (λ children. children ++ children_left (acts_of_steps s (steps_of filled steps)))
    (passed s (step_of filled step) place late)
    ∙ created_steps s (steps_of filled steps)
passed_children s filled (step ∷ steps) (suc index) place late within =
    let next : suc index + 1 ≡ suc (index + 1) = omega arith in
    rw next (passed_children s filled steps index place late (omega (arith, within)))

-- ---- no more than stops

one_more : (child : Option ℕ) (children : List ℕ) (most : ℕ) → length children ≤ most
    → length (cons_option child children) ≤ most + 1
one_more None children most few = omega (arith, few)
one_more (Some child) children most few = omega (arith, few)

pub few_children : (acts : List Act) → length (children_left acts) ≤ stops_in acts
few_children [] = omega arith
few_children (Halts when at ∷ acts) =
    one_more (child_of at) (children_left acts) (stops_in acts) (few_children acts)
few_children (Loads image ∷ acts) = few_children acts
few_children (Calls nr arguments ∷ acts) = few_children acts
few_children (Becomes image ∷ acts) = few_children acts
few_children (Stores fill ∷ acts) = few_children acts
few_children (Answers answer ∷ acts) = few_children acts
few_children (Delivers ∷ acts) = let few = few_children acts in omega (arith, few)
few_children (Exits death ∷ acts) = let few = few_children acts in omega (arith, few)
few_children (Dies death ∷ acts) = few_children acts

-- ---- where births are reported, all are named

-- an act whose stop names its child, if it has one
abbrev Names : Setting → Act → Type 0
Names t act = (acts : List Act) → children_reported t acts ≡ children_left acts
    → children_reported t (act ∷ acts) ≡ children_left (act ∷ acts)

abbrev NameAll : Setting → List Act → Type 0
NameAll t [] = Unit {0}
NameAll t (act ∷ acts) = Names t act × NameAll t acts

all_named : (t : Setting) (acts : List Act) → NameAll t acts → children_reported t acts ≡ children_left acts
all_named t [] names = refl
all_named t (act ∷ acts) names = names.0 acts (all_named t acts names.1)

names_later : (t : Setting) (place : ℕ) (acts : List Act) → NameAll t acts → NameAll t (drop place acts)
names_later t zero acts names = names
names_later t (suc place) [] names = tt
names_later t (suc place) (act ∷ acts) names = names_later t place acts names.1

names_append : (t : Setting) (acts more : List Act) → NameAll t acts → NameAll t more → NameAll t (acts ++ more)
names_append t [] more names later = later
names_append t (act ∷ acts) more names later = (names.0, names_append t acts more names.1 later)

named : (t : Setting) (option : Options) (at : Stop) (child : ℕ) → child_of at ≡ Some child
    → has_option t option ≡ true → Names t (Halts (ByOption option) at)
named t option at child is tells acts same =
    rw (is, tells) (ap (λ children. child ∷ children) same)

unnamed : (t : Setting) (b : Bool) (acts : List Act) → children_reported t acts ≡ children_left acts
    → with_child (reported_if b None) (children_reported t acts) ≡ children_left acts
unnamed t true acts same = same
unnamed t false acts same = same

names_step : (t : Setting) (step : Step) → ReportsBirths t → NameAll t (acts_of t step)
names_step t (step.Call nr arguments answer None) tells =
    (λ acts s. s, (λ acts s. s, (λ acts s. s, (λ acts s. s, (λ acts s. s, tt)))))
names_step t (step.Call nr arguments answer (Some fill)) tells =
    (λ acts s. s, (λ acts s. s, (λ acts s. s, (λ acts s. s, (λ acts s. s, (λ acts s. s, tt))))))
names_step t (step.Fork child) tells = (
  λ acts s. s,
  (
    λ acts s. s,
    (
      λ acts s. s,
      (
        named t TRACEFORK (stop.Fork child) child refl tells.0,
        (λ acts s. s, (λ acts s. s, tt)),
      ),
    ),
  ),
)
names_step t (step.Thread child) tells = (
  λ acts s. s,
  (
    λ acts s. s,
    (
      λ acts s. s,
      (
        named t TRACECLONE (stop.Clone child) child refl tells.1,
        (λ acts s. s, (λ acts s. s, tt)),
      ),
    ),
  ),
)
names_step t (step.Exec path image) tells = (
  λ acts s. s,
  (
    λ acts s. s,
    (
      λ acts s. s,
      (
        λ acts s. s,
        (
          λ acts s. unnamed t (has_option t TRACEEXEC) acts s,
          (λ acts s. s, (λ acts s. s, tt)),
        ),
      ),
    ),
  ),
)
names_step t (step.Signal signal true) tells = (λ acts s. s, (λ acts s. s, tt))
names_step t (step.Signal signal false) tells = (λ acts s. s, tt)
names_step t (step.Exit status) tells = (λ acts s. s, (λ acts s. s, (λ acts s. s, (λ acts s. s, tt))))

names_steps : (t : Setting) (steps : List Step) → ReportsBirths t → NameAll t (acts_of_steps t steps)
unfolding acts_of_steps
names_steps t [] tells = (λ acts s. s, tt)
names_steps t (step ∷ steps) tells =
    names_append t (acts_of t step) (acts_of_steps t steps) (names_step t step tells) (names_steps t steps tells)

names_in : (t : Setting) (filled : List ℕ) (steps : List (KeptStep FlatMemory)) (place : ℕ) → ReportsBirths t
    → NameAll t (left_in t filled steps place)
names_in t filled [] place tells = (λ acts s. s, tt)
names_in t filled (step ∷ steps) place tells =
    names_append t (acts_at t (step_of filled step) place) (acts_of_steps t (steps_of filled steps))
    (names_later t place (acts_of t (step_of filled step)) (names_step t (step_of filled step) tells))
    (names_steps t (steps_of filled steps) tells)

names_left : (t : Setting) (at : Progress) (image : KeptImage FlatMemory) (filled : List ℕ)
    (steps : List (KeptStep FlatMemory)) → ReportsBirths t → NameAll t (left_by t at image filled steps)
names_left t progress.New image filled steps tells =
    (λ acts s. s, (λ acts s. s, names_steps t (steps_of filled steps) tells))
names_left t (progress.Going index place) image filled steps tells = names_in t filled (drop index steps) place tells
names_left t (progress.Ended death) image filled steps tells = (λ acts s. s, tt)

pub reported_left : (t : Setting) (at : Progress) (image : KeptImage FlatMemory) (filled : List ℕ)
    (steps : List (KeptStep FlatMemory)) → ReportsBirths t
    → children_reported t (left_by t at image filled steps) ≡ children_left (left_by t at image filled steps)
reported_left t at image filled steps tells =
    all_named t (left_by t at image filled steps) (names_left t at image filled steps tells)
