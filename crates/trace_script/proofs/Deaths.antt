-- More than a death is left of a script before its exit.
use Rattle.std.proofs.Common.{◌≡◌, ◌∷◌, ◌++◌, [], ℕ, List}
use Rattle.trace_pages.specs.FlatMemory.{FlatMemory}
use Rattle.trace_record.specs.declared.death.Death.{Death}
use Rattle.trace_script.specs.Kept.{step_of, steps_of}
use Rattle.trace_script.specs.Left.{acts_at, left_in}
use Rattle.trace_script.specs.Script.{Step}
use Rattle.trace_script.specs.StepStops.{Act, Dies, acts_of, acts_of_steps}
use Rattle.trace_script.specs.declared.script.Step.{Step as KeptStep}
use Rattle.trace_script.specs.declared.setting.Setting.{Setting}

none_after : (acts more : List Act) → acts ++ more ≡ [] → more ≡ []
none_after [] more is = is
none_after (act ∷ acts) more is = cc

one_after : (acts more : List Act) (last : Act) → (more ≡ [] → ⊥) → acts ++ more ≡ last ∷ [] → more ≡ last ∷ []
one_after [] more last some is = is
one_after (act ∷ acts) more last some is =
    let rest : acts ++ more ≡ [] = cc in
    absurd (some (none_after acts more rest))

some_left : (s : Setting) (steps : List Step) → acts_of_steps s steps ≡ [] → ⊥
unfolding acts_of_steps
some_left s [] is = cc
some_left s (step ∷ steps) is = some_left s steps (none_after (acts_of s step) (acts_of_steps s steps) is)

steps_not_over : (s : Setting) (steps : List Step) (death : Death) → acts_of_steps s steps ≡ Dies death ∷ [] → ⊥
unfolding acts_of_steps
steps_not_over s [] death is = cc
steps_not_over s (step ∷ steps) death is =
    steps_not_over s steps death
    (one_after (acts_of s step) (acts_of_steps s steps) (Dies death) (some_left s steps) is)

pub left_not_over : (s : Setting) (filled : List ℕ) (steps : List (KeptStep FlatMemory)) (place : ℕ) (death : Death)
    → left_in s filled steps place ≡ Dies death ∷ [] → ⊥
left_not_over s filled [] place death is = cc
left_not_over s filled (step ∷ steps) place death is =
    let more = steps_of filled steps in
    steps_not_over s more death
    (one_after (acts_at s (step_of filled step) place) (acts_of_steps s more) (Dies death) (some_left s more) is)
