-- What is known of an open block: the memory that is in force, its births, and the bytes of its fills.
use Rattle.std.proofs.Common.{refl, ◌≡◌, ◌+◌, ◌≤◌, ◌++◌, ◌∷◌, [], ℕ, zero, suc, List, length, ap}
use Rattle.std.proofs.Common.{sym, ◌∙◌, arith, drop, get_or, set, take, append_assoc, length-append}
use Rattle.std.proofs.Math.Seq.{drop-append_seam, take-append_seam}
use Rattle.std.proofs.lemmas.List.{append-nil, map-append, set-get_or}
use Rattle.trace_pages.specs.FlatMemory.{FlatMemory}
use Rattle.trace_script.specs.declared.script.Step.{Step as KeptStep}
use Rattle.trace_script.specs.declared.script.Step.TheVariants as kept
use Rattle.trace_script.specs.CaseFile.{born_by, children_of, image_after, in_force}
use Rattle.trace_script.specs.Fills.{memory_after}
use Rattle.trace_script.specs.Kept.{step_of, steps_of}
use Rattle.trace_script.specs.OpenBlock.{kept_after}
use Rattle.trace_script.specs.Script.{Image, Step}
use Rattle.trace_script.specs.Script as step

-- ---- the memory in force

-- one step more at the end
pub in_force_after : (first : Image) (done : List Step) (s : Step) → in_force first (done ++ s ∷ []) ≡ image_after
    (in_force first done) s
in_force_after first [] s = refl
in_force_after first (d ∷ done) s = in_force_after (image_after first d) done s

memory_of_image : (image : Image) (s : Step) → (image_after image s).memory ≡ memory_after image.memory s
memory_of_image image (step.Exec path new) = refl
memory_of_image image (step.Call nr arguments answer fill) = refl
memory_of_image image (step.Fork child) = refl
memory_of_image image (step.Thread child) = refl
memory_of_image image (step.Signal signal deadly) = refl
memory_of_image image (step.Exit status) = refl

pub memory_more : (image : Image) (memory new : FlatMemory) (before after : List Step) (s : Step)
    → memory ≡ (in_force image before).memory → new ≡ memory_after memory s → after ≡ before ++ s ∷ []
    → new ≡ (in_force image after).memory
memory_more image memory new before after s is new_is after_is =
    new_is ∙ ap (λ (m : FlatMemory). memory_after m s) is ∙ sym (memory_of_image (in_force image before) s)
    ∙ ap (λ (i : Image). i.memory) (sym (in_force_after image before s))
    ∙ ap (λ (steps : List Step). (in_force image steps).memory) (sym after_is)

-- the last step, as it is kept
memory_of_kept : (image : Image) (filled : List ℕ) (s : KeptStep FlatMemory)
    → (image_after image (step_of filled s)).memory ≡ kept_after image.memory s
memory_of_kept image filled (kept.Exec path new) = refl
memory_of_kept image filled (kept.Call call) = refl
memory_of_kept image filled (kept.Fork child) = refl
memory_of_kept image filled (kept.Thread child) = refl
memory_of_kept image filled (kept.Signal signal deadly) = refl
memory_of_kept image filled (kept.Exit status) = refl

pub memory_at_last : (image : Image) (filled : List ℕ) (steps : List (KeptStep FlatMemory)) (i : ℕ)
    (last : KeptStep FlatMemory) → i + 1 ≡ length steps
    → (in_force image (steps_of filled (set steps i last))).memory
    ≡ kept_after (in_force image (steps_of filled (take i steps))).memory last
memory_at_last image filled [] i last end = absurd (omega arith)
memory_at_last image filled (s ∷ []) zero last end = memory_of_kept image filled last
memory_at_last image filled (s ∷ []) (suc i) last end = absurd (omega arith)
memory_at_last image filled (s ∷ next ∷ steps) zero last end = absurd (omega arith)
memory_at_last image filled (s ∷ next ∷ steps) (suc i) last end =
    memory_at_last (image_after image (step_of filled s)) filled (next ∷ steps) i last (omega arith)

-- the same of steps as they are
pub memory_by_last : (image : Image) (filled : List ℕ) (steps : List (KeptStep FlatMemory)) (i : ℕ)
    (last : KeptStep FlatMemory) (memory : FlatMemory) → i + 1 ≡ length steps → last ≡ get_or steps i last
    → memory ≡ (in_force image (steps_of filled steps)).memory
    → memory ≡ kept_after (in_force image (steps_of filled (take i steps))).memory last
memory_by_last image filled steps i last memory end is_last is =
    is ∙ ap (λ ss. (in_force image (steps_of filled ss)).memory) (sym (set-get_or steps i last))
    ∙ memory_at_last image filled steps i (get_or steps i last) end
    ∙ ap (kept_after (in_force image (steps_of filled (take i steps))).memory) (sym is_last)

-- the memory in force is that of the last step, if it is an exec
pub kept_twice : (memory : FlatMemory) (s : KeptStep FlatMemory)
    → kept_after memory s ≡ kept_after (kept_after memory s) s
kept_twice memory (kept.Exec path new) = refl
kept_twice memory (kept.Call call) = refl
kept_twice memory (kept.Fork child) = refl
kept_twice memory (kept.Thread child) = refl
kept_twice memory (kept.Signal signal deadly) = refl
kept_twice memory (kept.Exit status) = refl

pub no_step_yet : (image : Image) (filled : List ℕ) (steps : List (KeptStep FlatMemory)) → length steps ≡ 0
    → (in_force image (steps_of filled steps)).memory ≡ image.memory
no_step_yet image filled [] none = refl
no_step_yet image filled (s ∷ steps) none = absurd (omega (arith, none))

-- ---- births

pub births_more : (steps : List Step) (s : Step)
    → length (born_by (steps ++ s ∷ [])) ≡ length (born_by steps) + length (children_of s)
births_more [] s = omega (arith, length-append (children_of s) [])
births_more (first ∷ steps) s =
    omega (
      arith,
      births_more steps s,
      length-append (children_of first) (born_by (steps ++ s ∷ [])),
      length-append (children_of first) (born_by steps),
    )

one_child : (s : Step) → length (children_of s) ≤ 1
one_child (step.Fork child) = omega arith
one_child (step.Thread child) = omega arith
one_child (step.Exec path new) = omega arith
one_child (step.Call nr arguments answer fill) = omega arith
one_child (step.Signal signal deadly) = omega arith
one_child (step.Exit status) = omega arith

pub few_births : (steps : List Step) → length (born_by steps) ≤ length steps
few_births [] = omega arith
few_births (s ∷ steps) = omega (arith, few_births steps, one_child s, length-append (children_of s) (born_by steps))

pub counted_births : (births : ℕ) (before after : List Step) (s : Step) → births ≡ length (born_by before)
    → after ≡ before ++ s ∷ [] → births + length (children_of s) ≡ length (born_by after)
counted_births births before after s births_is after_is =
    ap (λ n. n + length (children_of s)) births_is ∙ sym (births_more before s)
    ∙ ap (λ (steps : List Step). length (born_by steps)) (sym after_is)

-- ---- the bytes of fills

-- a fill whose bytes were added to those of the fills before it
pub fill_added : (filled bytes all more : List ℕ) (start len : ℕ) → all ≡ filled ++ bytes → start ≡ length filled
    → len ≡ length bytes → take len (drop start (all ++ more)) ≡ bytes
fill_added filled bytes all more start len all_is start_is len_is =
    ap (λ n. take n (drop start (all ++ more))) len_is
    ∙ ap (λ n. take (length bytes) (drop n (all ++ more))) start_is
    ∙ ap (λ b. take (length bytes) (drop (length filled) (b ++ more))) all_is
    ∙ ap (λ b. take (length bytes) (drop (length filled) b)) (append_assoc filled bytes more)
    ∙ ap (take (length bytes)) (drop-append_seam filled (bytes ++ more))
    ∙ take-append_seam bytes more

-- the steps that are kept, with one more, whose bytes are added to theirs
module _ (filled bytes all : List ℕ) (old new : List (KeptStep FlatMemory)) (last : KeptStep FlatMemory) (s : Step)
    (all_is : all ≡ filled ++ bytes) (new_is : new ≡ old ++ last ∷ [])
    (whole : (more : List ℕ) → steps_of (filled ++ more) old ≡ steps_of filled old)
    (last_is : (more : List ℕ) → step_of (all ++ more) last ≡ s) where
  before_it : (more : List ℕ) → steps_of (all ++ more) old ≡ steps_of filled old
  before_it more =
      ap (λ b. steps_of (b ++ more) old) all_is
      ∙ ap (λ b. steps_of b old) (append_assoc filled bytes more)
      ∙ whole (bytes ++ more)

  with_more : (more : List ℕ) → steps_of (all ++ more) new ≡ steps_of filled old ++ s ∷ []
  with_more more =
      ap (λ steps. steps_of (all ++ more) steps) new_is
      ∙ map-append (step_of (all ++ more)) old (last ∷ [])
      ∙ ap (λ steps. steps ++ step_of (all ++ more) last ∷ []) (before_it more)
      ∙ ap (λ x. steps_of filled old ++ x ∷ []) (last_is more)

  pub kept_more : steps_of all new ≡ steps_of filled old ++ s ∷ []
  kept_more = ap (λ b. steps_of b new) (sym (append-nil all)) ∙ with_more []

  pub still_whole : (more : List ℕ) → steps_of (all ++ more) new ≡ steps_of all new
  still_whole more = with_more more ∙ sym kept_more
