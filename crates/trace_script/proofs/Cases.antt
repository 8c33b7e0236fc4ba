-- The case of a file by what its lines say and what is found after them.
use Rattle.std.proofs.Common.{refl, ◌≡◌, ◌+◌, ◌∷◌, [], ℕ, zero, suc, Bool, true, false, not, List, ap, sym}
use Rattle.std.proofs.Common.{subst, ◌∙◌, arith, cond, Option, Some, None, Result, Ok, Err, slice_get}
use Rattle.stop_history.specs.declared.roster.Row.{Row}
use Rattle.stop_history.specs.History.{is_next_child}
use Rattle.stop_history.specs.Roster.{is_leader, row_at, row_of}
use Rattle.text_lines.specs.Lines.{last_line}
use Rattle.text_lines.specs.Ranges.{◌>>=◌}
use Rattle.trace_script.specs.declared.case.keyword.Place.{Place}
use Rattle.trace_script.specs.declared.case.keyword.Place.TheVariants.{Loading, Outside, Stepping}
use Rattle.trace_script.specs.declared.case.late.Late.{Late}
use Rattle.trace_script.specs.declared.case.late.LateStep.{LateStep}
use Rattle.trace_script.specs.declared.case.late.LateStep.TheVariants as late_step
use Rattle.trace_script.specs.declared.cause.CaseError.{CaseError}
use Rattle.trace_script.specs.declared.cause.Cause.{Cause}
use Rattle.trace_script.specs.declared.cause.Cause.TheVariants as cause
use Rattle.trace_script.specs.CaseFacts.{AreScripts, IsCase, IsScript}
use Rattle.trace_script.specs.CaseFile.{CaseContent, Reading, case_of, case_unless, closing_fault, fork_fault, is_alone}
use Rattle.trace_script.specs.CaseFile.{is_closed, kind_fault, late_fault, late_step_fault, lines_read}
use Rattle.trace_script.specs.CaseFile.{or_after, thread_fault, unless}
use Rattle.trace_script.specs.Reading.{Refuses}
use Rattle.trace_script.specs.Script.{Script}

-- ---- out of memory is found by no test

abbrev IsFound : Cause → Type 0
IsFound cause.NoMemory = ⊥
IsFound other = Unit {0}

abbrev IfFound : Option Cause → Type 0
IfFound None = Unit {0}
IfFound (Some cause) = IsFound cause

unless_found : (test : Bool) (cause : Cause) → IsFound cause → IfFound (unless test cause)
unless_found true cause is = tt
unless_found false cause is = is

kind_found : (fits next : Bool) → IfFound (kind_fault fits next)
kind_found true next = unless_found next cause.ChildOrder tt
kind_found false next = tt

fork_found : (rows : List Row) (row births : ℕ) (child : Option ℕ) → IfFound (fork_fault rows row births child)
fork_found rows row births None = tt
fork_found rows row births (Some child) =
    kind_found (is_leader (row_at rows child)) (is_next_child rows row births (Some child))

thread_found : (rows : List Row) (row births : ℕ) (child : Option ℕ) → IfFound (thread_fault rows row births child)
thread_found rows row births None = tt
thread_found rows row births (Some child) =
    kind_found (not (is_leader (row_at rows child))) (is_next_child rows row births (Some child))

step_found : (rows : List Row) (row births : ℕ) (step : LateStep) → IfFound (late_step_fault rows row births step)
step_found rows row births (late_step.Fork child) = fork_found rows row births (row_of rows child)
step_found rows row births (late_step.Thread child) = thread_found rows row births (row_of rows child)
step_found rows row births late_step.Exec = unless_found (is_alone rows row) cause.SharedExec tt

abbrev IfFoundAt : Option CaseError → Type 0
IfFoundAt None = Unit {0}
IfFoundAt (Some error) = IsFound error.cause

found_after : (n : ℕ) (fault : Option Cause) (more : Option CaseError) → IfFound fault → IfFoundAt more
    → IfFoundAt (or_after n fault more)
found_after n None more is rest = rest
found_after n (Some fault) more is rest = is

late_found : (rows : List Row) (late : List Late) → IfFoundAt (late_fault rows late)
late_found rows [] = tt
late_found rows (first ∷ late) =
    found_after first.line (late_step_fault rows first.row first.births first.step) (late_fault rows late)
    (step_found rows first.row first.births first.step) (late_found rows late)

closing_by : (last : ℕ) (place : Place) (late : Option CaseError) → IfFoundAt late
    → IfFoundAt (cond (is_closed place) late (Some (record { line = last; cause = cause.NoEnd })))
closing_by last Outside late is = is
closing_by last Loading late is = tt
closing_by last Stepping late is = tt

closing_found : (last : ℕ) (all : Reading) → IfFoundAt (closing_fault last all)
closing_found last all = closing_by last all.place (late_fault all.rows all.late) (late_found all.rows all.late)

-- ---- refusals

module _ {A B : Type 0} (text : List ℕ) (lines : Result A CaseError) (file : Result B CaseError) where
  refuses : (cause : Cause) (line : ℕ) → IsFound cause → file ≡ Err (record { line = line; cause = cause })
      → Refuses text cause line lines file
  refuses cause.NoMemory line is refused = absurd is
  refuses cause line is refused = refused

error_found : (error : CaseError) (found : Option CaseError) → Some error ≡ found → IfFoundAt found
    → IsFound error.cause
error_found error found same is = let there = rw (sym same) at is in there

-- a fault after the last line refuses the file
pub refused_at_end : (text : List ℕ) (all : Reading) (error : CaseError) → lines_read text ≡ Ok all
    → Some error ≡ closing_fault (last_line text) all
    → Refuses text error.cause error.line (lines_read text) (case_of text)
refused_at_end text all error read found =
    refuses text (lines_read text) (case_of text) error.cause error.line
    (error_found error (closing_fault (last_line text) all) found (closing_found (last_line text) all))
    (ap (λ r. r >>= λ more. case_unless (closing_fault (last_line text) more) more) read
    ∙ ap (λ fault. case_unless fault all) (sym found))

-- none is the case
pub case_is : (text : List ℕ) (all : Reading) → lines_read text ≡ Ok all → closing_fault (last_line text) all ≡ None
    → case_of text ≡ Ok (record { rows = all.rows; scripts = all.scripts })
case_is text all read none =
    ap (λ r. r >>= λ more. case_unless (closing_fault (last_line text) more) more) read
    ∙ ap (λ fault. case_unless fault all) none

-- a fault of a line refuses the file
pub refused_in : (text : List ℕ) (cause : Cause) (line : ℕ) → Refuses text cause line (lines_read text) (lines_read text)
    → Refuses text cause line (lines_read text) (case_of text)
refused_in text cause.NoMemory line is = is
refused_in text cause line is = ap (λ r. r >>= λ all. case_unless (closing_fault (last_line text) all) all) is

-- ---- the script of a row

known_from : (rows : List Row) (from k : ℕ) (scripts : List Script) (script : Script) → AreScripts rows from scripts
    → slice_get scripts k ≡ Some script → IsScript rows (from + k) script
known_from rows from k [] script are there = cc there
known_from rows from zero (first ∷ scripts) script are there =
    let Known : ℕ → Script → Type 0 = λ row s. IsScript rows row s in
    let same : first ≡ script = cc there in
    let at : from ≡ from + 0 = omega arith in
    subst (Known (from + 0)) same (subst (λ row. Known row first) at are.0)
known_from rows from (suc k) (first ∷ scripts) script are there =
    let Known : ℕ → Type 0 = λ row. IsScript rows row script in
    let at : from + 1 + k ≡ from + suc k = omega arith in
    subst Known at (known_from rows (from + 1) k scripts script are.1 there)

pub known : (content : CaseContent) (row : ℕ) (script : Script) → IsCase content
    → slice_get content.scripts row ≡ Some script → IsScript content.rows row script
known content row script is there =
    let Known : ℕ → Type 0 = λ at. IsScript content.rows at script in
    let at : 0 + row ≡ row = omega arith in
    subst Known at (known_from content.rows 0 row content.scripts script is.scripts there)

pub is_none : {A : Type 0} (o : Option A) → ((x : A) → o ≡ Some x → ⊥) → o ≡ None
is_none None no_some = refl
is_none (Some x) no_some = absurd (no_some x refl)
