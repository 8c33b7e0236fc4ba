-- What a new part of an image leaves of the steps: the last one may be an exec of another image, and nothing else is
-- changed.
use Rattle.std.proofs.Common.{refl, ◌≡◌, ◌++◌, ◌∷◌, [], ℕ, Bool, true, false, List, length, ap, cond, eqb, IfOk, IsOk}
use Rattle.std.proofs.Common.{OnOk, Result, Ok, Err, sym, ◌∙◌}
use Rattle.text_lines.specs.Ranges.{◌>>=◌}
use Rattle.trace_pages.specs.FlatMemory.{FlatMemory}
use Rattle.trace_script.specs.declared.case.block.Block.{Block}
use Rattle.trace_script.specs.declared.cause.Cause.{Cause}
use Rattle.trace_script.specs.declared.script.Script.{Script as KeptScript}
use Rattle.trace_script.specs.CaseFile.{born_by, children_of, in_force, part_loaded, part_of_last, part_of_script}
use Rattle.trace_script.specs.CaseFile.{part_of_step}
use Rattle.trace_script.specs.CaseLine.{Part}
use Rattle.trace_script.specs.Kept.{image_of, script_by, script_of, steps_of}
use Rattle.trace_script.specs.OpenBlock.{IsCounted}
use Rattle.trace_script.specs.Reading.{TakesLine}
use Rattle.trace_script.specs.Script.{Image, Script, Step}
use Rattle.trace_script.specs.Script as step

-- what holds of a value where there is one, made of another
pub if_ok : {A B : Type 0} (P : A → Type 0) (Q : B → Type 0) (f : A → B) (r : Result A Cause) → IfOk r P
    → ((x : A) → P x → Q (f x)) → IfOk (r >>= λ x. Ok (f x)) Q
if_ok P Q f (Ok x) is more = more x is
if_ok P Q f (Err cause) is more = tt

pub data Reloaded : Step → Step → Type 0 where
  unchanged : (s : Step) → Reloaded s s
  exec : (path : ℕ) → (image new : Image) → Reloaded (step.Exec path image) (step.Exec path new)

any_image : (read : Result Image Cause) → IfOk read (λ image. Unit {0})
any_image (Ok image) = tt
any_image (Err cause) = tt

reloaded : (s : Step) (part : Part) → IfOk (part_of_step s part) (Reloaded s)
reloaded (step.Exec path image) part =
    if_ok (λ new. Unit {0}) (Reloaded (step.Exec path image)) (step.Exec path) (part_loaded image part)
    (any_image (part_loaded image part)) (λ new h. Reloaded.exec path image new)
reloaded (step.Call nr arguments answer fill) part = Reloaded.unchanged (step.Call nr arguments answer fill)
reloaded (step.Fork child) part = Reloaded.unchanged (step.Fork child)
reloaded (step.Thread child) part = Reloaded.unchanged (step.Thread child)
reloaded (step.Signal signal deadly) part = Reloaded.unchanged (step.Signal signal deadly)
reloaded (step.Exit status) part = Reloaded.unchanged (step.Exit status)

-- what holds of steps and of the steps after a part was loaded
module _ (P : List Step → List Step → Type 0) where
  pub last_reloaded : P [] [] → ((s t : Step) → Reloaded s t → P (s ∷ []) (t ∷ []))
      → ((s next : Step) (steps new : List Step) → P (next ∷ steps) new → P (s ∷ next ∷ steps) (s ∷ new))
      → (part : Part) (steps : List Step) → IfOk (part_of_last steps part) (P steps)
  last_reloaded none one more part [] = none
  last_reloaded none one more part (s ∷ []) =
      if_ok (Reloaded s) (P (s ∷ [])) (λ new. new ∷ []) (part_of_step s part) (reloaded s part) (one s)
  last_reloaded none one more part (s ∷ next ∷ steps) =
      if_ok (P (next ∷ steps)) (P (s ∷ next ∷ steps)) (λ new. s ∷ new) (part_of_last (next ∷ steps) part)
      (last_reloaded none one more part (next ∷ steps)) (more s next steps)

-- ---- what is counted stays

abbrev SameCounts : List Step → List Step → Type 0
SameCounts old new = born_by new ≡ born_by old

one_counts : (s t : Step) → Reloaded s t → SameCounts (s ∷ []) (t ∷ [])
one_counts s t (Reloaded.unchanged _) = refl
one_counts s t (Reloaded.exec path image new) = refl

more_counts : (s next : Step) (steps new : List Step) → SameCounts (next ∷ steps) new
    → SameCounts (s ∷ next ∷ steps) (s ∷ new)
more_counts s next steps new same = ap (λ (born : List ℕ). children_of s ++ born) same

counts_of_last : (steps : List Step) (part : Part) → IfOk (part_of_last steps part) (SameCounts steps)
counts_of_last steps part = last_reloaded SameCounts refl one_counts more_counts part steps

abbrev SameScript : Script → Script → Type 0
SameScript old new = SameCounts old.steps new.steps

counts_by : (script : Script) (part : Part) (none : Bool)
    → IfOk (cond none (part_loaded script.image part >>= λ image. Ok (record { image = image; steps = script.steps }))
    (part_of_last script.steps part >>= λ steps. Ok (record { image = script.image; steps = steps })))
    (SameScript script)
counts_by script part true =
    if_ok (λ image. Unit {0}) (SameScript script) (λ image. record { image = image; steps = script.steps })
    (part_loaded script.image part) (any_image (part_loaded script.image part)) (λ image h. refl)
counts_by script part false =
    if_ok (SameCounts script.steps) (SameScript script) (λ steps. record { image = script.image; steps = steps })
    (part_of_last script.steps part) (counts_of_last script.steps part) (λ steps h. h)

counts_of_script : (script : Script) (part : Part) → IfOk (part_of_script script part) (SameScript script)
counts_of_script script part = counts_by script part (eqb (length script.steps) 0)

abbrev read : Result Script Cause → Result Script Cause
read r = r

-- what a part makes of equal scripts is equal
same_new : (result : Result (Unit {0}) Cause) (part : Part) (one other new new_other : Script) → IsOk result
    → one ≡ other → TakesLine result new (part_of_script one part)
    → TakesLine result new_other (part_of_script other part) → new ≡ new_other
same_new (Ok done) part one other new new_other ok same takes takes_other =
    let both : read (Ok new) ≡ read (Ok new_other) =
    sym takes ∙ ap (λ script. part_of_script script part) same ∙ takes_other in
    cc both
same_new (Err cause) part one other new new_other ok same takes takes_other =
    absurd (let clash : false ≡ true = ok in cc)

-- a block is counted after a part was loaded
pub still_counted : {Z : Type 0} (result : Result (Unit {0}) Cause) (block : Block Z) (new : KeptScript Z)
    (memory : FlatMemory) (part : Part) → IsCounted block
    → ((filled : List ℕ)
    → TakesLine result (script_by filled new) (part_of_script (script_by filled block.script) part))
    → new.filled.items ≡ block.script.filled.items
    → OnOk result (memory ≡ (in_force (script_of new).image (script_of new).steps).memory)
    → OnOk result (IsCounted (record { script = new; memory = memory; births = block.births }))
still_counted (Ok done) block new memory part counted takes same_bytes now_in_force =
    let filled = block.script.filled.items in
    let same = rw (takes filled) at (counts_of_script (script_of block.script) part) in
    let now : steps_of new.filled.items new.steps.items ≡ steps_of filled new.steps.items =
    ap (λ (b : List ℕ). steps_of b new.steps.items) same_bytes in
    record {
      memory = now_in_force;
      births = counted.births ∙ ap (λ (born : List ℕ). length born) (sym same)
          ∙ ap (λ (steps : List Step). length (born_by steps)) (sym now);
      whole = λ more.
          ap (λ (b : List ℕ). steps_of (b ++ more) new.steps.items) same_bytes
          ∙ ap (λ (script : Script). script.steps)
          (same_new (Ok done) part (script_by (filled ++ more) block.script) (script_by filled block.script)
          (script_by (filled ++ more) new) (script_by filled new) refl
          (ap (λ (steps : List Step). record { image = image_of block.script.image; steps = steps })
          (counted.whole more)) (takes (filled ++ more)) (takes filled))
          ∙ sym now;
    }
still_counted (Err cause) block new memory part counted takes same_bytes now_in_force = tt
