-- What is known of the steps of a script: that they could be taken, and that a new part of an image changes nothing of
-- it.
use Rattle.std.proofs.Common.{refl, ◌≡◌, ◌+◌, ◌<◌, ◌++◌, ◌∷◌, [], ℕ, suc, Bool, true, false, List, length, ap, cond}
use Rattle.std.proofs.Common.{Option, Some, None, sym, subst, ◌∙◌, arith, nat_lt, not}
use Rattle.std.proofs.lemmas.Bool.Decides.{nat_tests}
use Rattle.stop_history.specs.declared.roster.Row.{Row}
use Rattle.stop_history.specs.History.{is_next_child}
use Rattle.stop_history.specs.Roster.{is_leader, row_at, row_of}
use Rattle.trace_pages.specs.FlatMemory.{FlatMemory, Absent, Full, RunEnd, Top, run_end}
use Rattle.trace_script.specs.declared.case.late.Late.{Late}
use Rattle.trace_script.specs.declared.case.late.LateStep.TheVariants as late_step
use Rattle.trace_script.specs.declared.cause.CaseError.{CaseError}
use Rattle.trace_script.specs.declared.cause.Cause.{Cause}
use Rattle.trace_script.specs.declared.cause.Cause.TheVariants as cause
use Rattle.trace_script.specs.declared.limits.TheConstants.{MOST_STEPS}
use Rattle.trace_script.specs.CaseFacts.{AreAlone, AreFillsMapped, AreNext, AreSteps, IsFillMapped, IsMappedIn, IsStep}
use Rattle.trace_script.specs.CaseFacts.{is_exec, memory_after}
use Rattle.trace_script.specs.CaseFile.{born_by, children_of, fill_fault, fork_fault, image_after, in_force, is_alone}
use Rattle.trace_script.specs.CaseFile.{is_full, is_mapped, kind_fault, late_fault, late_of, late_step_fault}
use Rattle.trace_script.specs.CaseFile.{next_step_fault, or_after, step_fault, thread_fault, unless}
use Rattle.trace_script.specs.Script.{Fill, Image, Script, Step}
use Rattle.trace_script.specs.Script as step
use Rattle.trace_script.specs.Signals.{can_arrive}
use Rattle.trace_script.proofs.Reloads.{Reloaded}

-- ---- a step that was taken

pub fits : (test : Bool) (fault : Cause) → unless test fault ≡ None → test ≡ true
fits true fault none = refl
fits false fault none = cc none

full_end : (end : RunEnd) → is_full end ≡ true → end ≡ Full
full_end Full is = refl
full_end (Absent address) is = cc is
full_end Top is = cc is

fill_fits : (memory : FlatMemory) (fill : Option Fill) → fill_fault memory fill ≡ None → IsFillMapped memory fill
fill_fits memory None none = tt
fill_fits memory (Some fill) none =
    full_end (run_end memory fill.address (length fill.bytes))
    (fits (is_mapped memory fill.address fill.bytes) cause.Unmapped none)

pub step_fits : (memory : FlatMemory) (s : Step) → step_fault memory s ≡ None → IsStep s × IsMappedIn memory s
step_fits memory (step.Call nr arguments answer fill) none = (tt, fill_fits memory fill none)
step_fits memory (step.Signal signal deadly) none = (fits (can_arrive signal) cause.Signal none, tt)
step_fits memory (step.Fork child) none = (tt, tt)
step_fits memory (step.Thread child) none = (tt, tt)
step_fits memory (step.Exec path image) none = (tt, tt)
step_fits memory (step.Exit status) none = (tt, tt)

room_by : (n most : ℕ) (test : Bool) (more : Option Cause) → nat_lt n most ≡ test
    → cond test more (Some cause.TooMany) ≡ None → (n < most) × (more ≡ None)
room_by n most true more is none = (grind (arith, nat_tests), none)
room_by n most false more is none = cc none

pub next_fits : (script : Script) (s : Step) → next_step_fault script s ≡ None
    → (length script.steps < MOST_STEPS) × (step_fault (in_force script.image script.steps).memory s ≡ None)
next_fits script s none =
    room_by (length script.steps) MOST_STEPS (nat_lt (length script.steps) MOST_STEPS) _ refl none

-- ---- one more step at the end

pub signals_more : (steps : List Step) (s : Step) → AreSteps steps → IsStep s → AreSteps (steps ++ s ∷ [])
signals_more [] s all is = (is, tt)
signals_more (first ∷ steps) s all is = (all.0, signals_more steps s all.1 is)

same_memory : (image : Image) (s : Step) → (image_after image s).memory ≡ memory_after image.memory s
same_memory image (step.Exec path new) = refl
same_memory image (step.Call nr arguments answer fill) = refl
same_memory image (step.Fork child) = refl
same_memory image (step.Thread child) = refl
same_memory image (step.Signal signal deadly) = refl
same_memory image (step.Exit status) = refl

pub fills_more : (image : Image) (steps : List Step) (s : Step) → AreFillsMapped image.memory steps
    → IsMappedIn (in_force image steps).memory s → AreFillsMapped image.memory (steps ++ s ∷ [])
fills_more image [] s all is = (is, tt)
fills_more image (first ∷ steps) s all is =
    let Before : FlatMemory → Type 0 = λ memory. AreFillsMapped memory steps in
    let After : FlatMemory → Type 0 = λ memory. AreFillsMapped memory (steps ++ s ∷ []) in
    let before = subst Before (sym (same_memory image first)) all.1 in
    (all.0, subst After (same_memory image first) (fills_more (image_after image first) steps s before is))

-- ---- the late tests of a script's steps

abbrev pub FreeStep : List Row → (row births : ℕ) → Step → Type 0
FreeStep rows row births (step.Fork child) = late_step_fault rows row births (late_step.Fork child) ≡ None
FreeStep rows row births (step.Thread child) = late_step_fault rows row births (late_step.Thread child) ≡ None
FreeStep rows row births (step.Exec path image) = late_step_fault rows row births late_step.Exec ≡ None
FreeStep rows row births other = Unit {0}

abbrev pub births_with : ℕ → Step → ℕ
births_with births (step.Fork child) = births + 1
births_with births (step.Thread child) = births + 1
births_with births other = births

abbrev pub AreFree : List Row → (row births : ℕ) → List Step → Type 0
AreFree rows row births [] = Unit {0}
AreFree rows row births (s ∷ steps) = FreeStep rows row births s × AreFree rows row (births_with births s) steps

counted : (births : ℕ) (s : Step) (born : List ℕ)
    → births + length (children_of s ++ born) ≡ births_with births s + length born
counted births (step.Fork child) born = omega arith
counted births (step.Thread child) born = omega arith
counted births (step.Exec path image) born = refl
counted births (step.Call nr arguments answer fill) born = refl
counted births (step.Signal signal deadly) born = refl
counted births (step.Exit status) born = refl

free_after : (rows : List Row) (row births : ℕ) (steps : List Step) (s : Step) → AreFree rows row births steps
    → FreeStep rows row (births + length (born_by steps)) s → AreFree rows row births (steps ++ s ∷ [])
free_after rows row births [] s all is =
    let Free : ℕ → Type 0 = λ n. FreeStep rows row n s in
    let none : births + 0 ≡ births = omega arith in
    (subst Free none is, tt)
free_after rows row births (first ∷ steps) s all is =
    let Free : ℕ → Type 0 = λ n. FreeStep rows row n s in (
      all.0,
      free_after rows row (births_with births first) steps s all.1
          (subst Free (counted births first (born_by steps)) is),
    )

pub free_more : (rows : List Row) (row : ℕ) (steps : List Step) (s : Step) → AreFree rows row 0 steps
    → FreeStep rows row (length (born_by steps)) s → AreFree rows row 0 (steps ++ s ∷ [])
free_more rows row steps s all is =
    let Free : ℕ → Type 0 = λ n. FreeStep rows row n s in
    let none : length (born_by steps) ≡ 0 + length (born_by steps) = omega arith in
    free_after rows row 0 steps s all (subst Free none is)

-- no late fault of more is none of each part
either_none : (n : ℕ) (fault : Option Cause) (more : Option CaseError) → or_after n fault more ≡ None
    → (fault ≡ None) × (more ≡ None)
either_none n None more none = (refl, none)
either_none n (Some fault) more none = cc none

pub both_free : (rows : List Row) (late more : List Late) → late_fault rows (late ++ more) ≡ None
    → (late_fault rows late ≡ None) × (late_fault rows more ≡ None)
both_free rows [] more none = (refl, none)
both_free rows (first ∷ late) more none =
    let parts = either_none first.line (late_step_fault rows first.row first.births first.step)
    (late_fault rows (late ++ more)) none in
    let rest = both_free rows late more parts.1 in
    (ap (λ fault. or_after first.line fault (late_fault rows late)) parts.0 ∙ rest.0, rest.1)

pub free_by : (rows : List Row) (line row births : ℕ) (s : Step) → late_fault rows (late_of line row births s) ≡ None
    → FreeStep rows row births s
free_by rows line row births (step.Fork child) none =
    (either_none line (late_step_fault rows row births (late_step.Fork child)) None none).0
free_by rows line row births (step.Thread child) none =
    (either_none line (late_step_fault rows row births (late_step.Thread child)) None none).0
free_by rows line row births (step.Exec path image) none =
    (either_none line (late_step_fault rows row births late_step.Exec) None none).0
free_by rows line row births (step.Call nr arguments answer fill) none = tt
free_by rows line row births (step.Signal signal deadly) none = tt
free_by rows line row births (step.Exit status) none = tt

-- ---- what free steps are

kind_fits : (fits next : Bool) → kind_fault fits next ≡ None → next ≡ true
kind_fits true next none = fits next cause.ChildOrder none
kind_fits false next none = cc none

fork_next : (rows : List Row) (row births : ℕ) (child : Option ℕ) → fork_fault rows row births child ≡ None
    → is_next_child rows row births child ≡ true
fork_next rows row births None none = cc none
fork_next rows row births (Some child) none =
    kind_fits (is_leader (row_at rows child)) (is_next_child rows row births (Some child)) none

thread_next : (rows : List Row) (row births : ℕ) (child : Option ℕ) → thread_fault rows row births child ≡ None
    → is_next_child rows row births child ≡ true
thread_next rows row births None none = cc none
thread_next rows row births (Some child) none =
    kind_fits (not (is_leader (row_at rows child))) (is_next_child rows row births (Some child)) none

pub births_next : (rows : List Row) (row births : ℕ) (steps : List Step) → AreFree rows row births steps
    → AreNext rows row births (born_by steps)
births_next rows row births [] free = tt
births_next rows row births (step.Fork child ∷ steps) free =
    (fork_next rows row births (row_of rows child) free.0, births_next rows row (births + 1) steps free.1)
births_next rows row births (step.Thread child ∷ steps) free =
    (thread_next rows row births (row_of rows child) free.0, births_next rows row (births + 1) steps free.1)
births_next rows row births (step.Exec path image ∷ steps) free = births_next rows row births steps free.1
births_next rows row births (step.Call nr arguments answer fill ∷ steps) free = births_next rows row births steps free.1
births_next rows row births (step.Signal signal deadly ∷ steps) free = births_next rows row births steps free.1
births_next rows row births (step.Exit status ∷ steps) free = births_next rows row births steps free.1

alone : (rows : List Row) (row births : ℕ) (s : Step) → FreeStep rows row births s → is_exec s ≡ true
    → is_alone rows row ≡ true
alone rows row births (step.Exec path image) free is = fits (is_alone rows row) cause.SharedExec free
alone rows row births (step.Fork child) free is = cc is
alone rows row births (step.Thread child) free is = cc is
alone rows row births (step.Call nr arguments answer fill) free is = cc is
alone rows row births (step.Signal signal deadly) free is = cc is
alone rows row births (step.Exit status) free is = cc is

pub execs_alone : (rows : List Row) (row births : ℕ) (steps : List Step) → AreFree rows row births steps
    → AreAlone rows row steps
execs_alone rows row births [] free = tt
execs_alone rows row births (s ∷ steps) free =
    (alone rows row births s free.0, execs_alone rows row (births_with births s) steps free.1)

-- ---- a new part of an image

pub record SameFacts (old new : List Step) : Type 0 where
  pub size : length new ≡ length old
  pub signals : AreSteps old → AreSteps new
  pub fills : (memory : FlatMemory) → AreFillsMapped memory old → AreFillsMapped memory new
  pub free : (rows : List Row) (row births : ℕ) → AreFree rows row births old → AreFree rows row births new

pub no_facts : SameFacts [] []
no_facts = record { size = refl; signals = λ h. h; fills = λ memory h. h; free = λ rows row births h. h }

pub one_facts : (s t : Step) → Reloaded s t → SameFacts (s ∷ []) (t ∷ [])
one_facts s t (Reloaded.unchanged _) =
    record { size = refl; signals = λ h. h; fills = λ memory h. h; free = λ rows row births h. h }
one_facts s t (Reloaded.exec path image new) =
    record { size = refl; signals = λ h. h; fills = λ memory h. h; free = λ rows row births h. h }

pub more_facts : (s next : Step) (steps new : List Step) → SameFacts (next ∷ steps) new
    → SameFacts (s ∷ next ∷ steps) (s ∷ new)
more_facts s next steps new same =
    record {
      size = ap (λ n. suc n) same.size;
      signals = λ h. (h.0, same.signals h.1);
      fills = λ memory h. (h.0, same.fills (memory_after memory s) h.1);
      free = λ rows row births h. (h.0, same.free rows row (births_with births s) h.1);
    }
