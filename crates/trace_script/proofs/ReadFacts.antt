-- What is known while a case file is read, line by line, and of the case that it has.
use Rattle.std.proofs.Common.{refl, ◌≡◌, ◌+◌, ◌-◌, ◌<◌, ◌≤◌, ◌++◌, ◌∷◌, [], ℕ, Bool, true, false, All, List, length}
use Rattle.std.proofs.Common.{Option, Some, None, Result, Ok, Err, IfOk, ap, sym, subst, arith, cond, nat_le}
use Rattle.std.proofs.Common.{length-append}
use Rattle.std.proofs.lemmas.List.Elements.{All-append, All-push}
use Rattle.stop_history.specs.declared.roster.Row.{Row}
use Rattle.stop_history.specs.declared.roster.RosterError.{RosterError}
use Rattle.stop_history.specs.Roster.{IsRoster, push_fault}
use Rattle.stop_history.proofs.Rosters.{one_more}
use Rattle.text_lines.specs.declared.fault.LineFault.{LineFault}
use Rattle.text_lines.specs.Lines.{last_line, lines_of, words_in}
use Rattle.text_lines.specs.Ranges.{◌>>=◌}
use Rattle.trace_script.specs.declared.case.keyword.Keyword.TheVariants as keyword
use Rattle.trace_script.specs.declared.case.keyword.Place.{Place}
use Rattle.trace_script.specs.declared.case.keyword.Place.TheVariants.{Loading, Outside, Stepping}
use Rattle.trace_script.specs.declared.case.late.Late.{Late}
use Rattle.trace_script.specs.declared.cause.CaseError.{CaseError}
use Rattle.trace_script.specs.declared.cause.Cause.{Cause}
use Rattle.trace_script.specs.declared.limits.TheConstants.{MOST_STEPS}
use Rattle.trace_script.specs.CaseFacts.{AreFillsMapped, AreScripts, AreSteps, IsCase, IsScript}
use Rattle.trace_script.specs.CaseFile.{Reading, born_by, case_of, case_unless, closing_fault, in_force}
use Rattle.trace_script.specs.CaseFile.{is_closed, late_fault, late_of, line_read, lines_read, next_step_fault, no_script}
use Rattle.trace_script.specs.CaseFile.{nothing_read, part_loaded, part_of_last, part_of_script, place_after, roster_cause}
use Rattle.trace_script.specs.CaseFile.{unless_fault, with_block, with_line, with_script, with_step, without_block}
use Rattle.trace_script.specs.CaseLine.{Line, Part, line_of, may_come, no_image}
use Rattle.trace_script.specs.CaseLine as line
use Rattle.trace_script.specs.Reading.{at_line, most_bytes, read_after, with_cause}
use Rattle.trace_script.specs.Script.{Image, Script, Step}
use Rattle.trace_script.specs.Script as step
use Rattle.trace_script.proofs.Images.{some_steps}
use Rattle.trace_script.proofs.LinePlaces.{FitsAt, line_fits}
use Rattle.trace_script.proofs.Reloads.{if_ok, last_reloaded}
use Rattle.trace_script.proofs.StepFacts.{AreFree, SameFacts, births_next, both_free, execs_alone, fills_more, free_by}
use Rattle.trace_script.proofs.StepFacts.{free_more, more_facts, next_fits, no_facts, one_facts, signals_more, step_fits}

-- ---- what is known

-- of a script, as far as it was read
pub record IsReadScript (late : List Late) (row : ℕ) (script : Script) : Type 0 where
  pub few : length script.steps ≤ MOST_STEPS
  pub signals : AreSteps script.steps
  pub fills : AreFillsMapped script.image.memory script.steps
  pub free : (rows : List Row) → late_fault rows late ≡ None → AreFree rows row 0 script.steps

abbrev pub AreRead : List Late → (row : ℕ) → List Script → Type 0
AreRead late row [] = Unit {0}
AreRead late row (script ∷ scripts) = IsReadScript late row script × AreRead late (row + 1) scripts

-- how many blocks are open
abbrev pub open_blocks : Place → ℕ
open_blocks Outside = 0
open_blocks Loading = 1
open_blocks Stepping = 1

pub record IsRead (so_far : Reading) : Type 0 where
  pub roster : IsRoster so_far.rows
  pub each : length so_far.rows ≡ length so_far.scripts + open_blocks so_far.place
  pub closed : AreRead so_far.late 0 so_far.scripts
  pub current : IsReadScript so_far.late (length so_far.scripts) so_far.script
  pub late : All (λ l. l.row < length so_far.rows) so_far.late

-- ---- more late steps

still_read : (late more : List Late) (row : ℕ) (script : Script) → IsReadScript late row script
    → IsReadScript (late ++ more) row script
still_read late more row script is =
    record {
      few = is.few;
      signals = is.signals;
      fills = is.fills;
      free = λ rows none. is.free rows (both_free rows late more none).0;
    }

all_still_read : (late more : List Late) (row : ℕ) (scripts : List Script) → AreRead late row scripts
    → AreRead (late ++ more) row scripts
all_still_read late more row [] are = tt
all_still_read late more row (script ∷ scripts) are =
    (still_read late more row script are.0, all_still_read late more (row + 1) scripts are.1)

one_more_read : (late : List Late) (row : ℕ) (scripts : List Script) (script : Script) → AreRead late row scripts
    → IsReadScript late (row + length scripts) script → AreRead late row (scripts ++ script ∷ [])
one_more_read late row [] script are is =
    let IsIt : ℕ → Type 0 = λ n. IsReadScript late n script in
    let none : row + 0 ≡ row = omega arith in
    (subst IsIt none is, tt)
one_more_read late row (first ∷ scripts) script are is =
    let IsIt : ℕ → Type 0 = λ n. IsReadScript late n script in
    let next : row + length (first ∷ scripts) ≡ row + 1 + length scripts = omega arith in
    (are.0, one_more_read late (row + 1) scripts script are.1 (subst IsIt next is))

none_read : (late : List Late) (row : ℕ) → IsReadScript late row no_script
none_read late row = record { few = omega arith; signals = tt; fills = tt; free = λ rows none. tt }

-- ---- a part of an image

pub record SameScript (old new : Script) : Type 0 where
  pub size : length new.steps ≡ length old.steps
  pub signals : AreSteps old.steps → AreSteps new.steps
  pub fills : AreFillsMapped old.image.memory old.steps → AreFillsMapped new.image.memory new.steps
  pub free : (rows : List Row) (row births : ℕ) → AreFree rows row births old.steps → AreFree rows row births new.steps

abbrev script_of_steps : Image → List Step → Script
script_of_steps image steps = record { image = image; steps = steps }

any : {A : Type 0} (read : Result A Cause) → IfOk read (λ x. Unit {0})
any (Ok x) = tt
any (Err fault) = tt

first_image : (image new : Image) → SameScript (script_of_steps image []) (script_of_steps new [])
first_image image new = record { size = refl; signals = λ h. h; fills = λ h. tt; free = λ rows row births h. h }

last_image : (image : Image) (old new : List Step) → SameFacts old new
    → SameScript (script_of_steps image old) (script_of_steps image new)
last_image image old new same =
    record { size = same.size; signals = same.signals; fills = same.fills image.memory; free = same.free }

part_kept : (image : Image) (steps : List Step) (part : Part)
    → IfOk (part_of_script (script_of_steps image steps) part) (SameScript (script_of_steps image steps))
part_kept image [] part =
    if_ok (λ new. Unit {0}) (SameScript (script_of_steps image [])) (λ new. script_of_steps new []) (part_loaded image part)
    (any (part_loaded image part)) (λ new h. first_image image new)
part_kept image (s ∷ steps) part =
    let Kept : Bool → Type 0 = λ none.
    IfOk (cond none (part_loaded image part >>= λ new. Ok (script_of_steps new (s ∷ steps)))
    (part_of_last (s ∷ steps) part >>= λ new. Ok (script_of_steps image new)))
    (SameScript (script_of_steps image (s ∷ steps))) in
    subst Kept (sym (some_steps (length (s ∷ steps)) (length steps) (omega arith)))
    (if_ok (SameFacts (s ∷ steps)) (SameScript (script_of_steps image (s ∷ steps))) (λ new. script_of_steps image new)
    (part_of_last (s ∷ steps) part) (last_reloaded SameFacts no_facts one_facts more_facts part (s ∷ steps))
    (λ new same. last_image image (s ∷ steps) new same))

-- ---- lines

with_part : (so_far : Reading) (new : Script) → IsRead so_far → SameScript so_far.script new
    → IsRead (with_script so_far new)
with_part so_far new is same =
    record {
      roster = is.roster;
      each = is.each;
      closed = is.closed;
      current = record {
        few = let few = is.current.few in let size = same.size in omega arith;
        signals = same.signals is.current.signals;
        fills = same.fills is.current.fills;
        free = λ rows none. same.free rows (length so_far.scripts) 0 (is.current.free rows none);
      };
      late = is.late;
    }

opened : (so_far : Reading) (row : Row) (fault : Option RosterError) → so_far.place ≡ Outside → IsRead so_far
    → push_fault so_far.rows row ≡ fault → IfOk (unless_fault (roster_cause fault) (with_block so_far row)) IsRead
opened so_far row (Some fault) outside is found = tt
opened so_far row None outside is found =
    let size = length-append so_far.rows (row ∷ []) in
    let closed : open_blocks so_far.place ≡ 0 = ap open_blocks outside in
    record {
      roster = one_more so_far.rows row is.roster found;
      each = let each = is.each in omega arith;
      closed = is.closed;
      current = none_read so_far.late (length so_far.scripts);
      late = λ k d within. let less = is.late k d within in omega arith;
    }

none_within : (n : ℕ) → All (λ (l : Late). l.row < n) []
none_within n = λ k d within. absurd (omega arith)

one_within : (n : ℕ) (late : Late) → late.row < n → All (λ (l : Late). l.row < n) (late ∷ [])
one_within n late less = All-push (λ (l : Late). l.row < n) [] late (none_within n) less

late_within : (line row births n : ℕ) (s : Step) → row < n → All (λ (l : Late). l.row < n) (late_of line row births s)
late_within line row births n (step.Fork child) less = one_within n _ less
late_within line row births n (step.Thread child) less = one_within n _ less
late_within line row births n (step.Exec path image) less = one_within n _ less
late_within line row births n (step.Call nr arguments answer fill) less = none_within n
late_within line row births n (step.Signal signal deadly) less = none_within n
late_within line row births n (step.Exit status) less = none_within n

after_step : (s : Step) → open_blocks (place_after s) ≡ 1
after_step (step.Exec path image) = refl
after_step (step.Fork child) = refl
after_step (step.Thread child) = refl
after_step (step.Call nr arguments answer fill) = refl
after_step (step.Signal signal deadly) = refl
after_step (step.Exit status) = refl

stepped : (n : ℕ) (so_far : Reading) (s : Step) (fault : Option Cause) → open_blocks so_far.place ≡ 1 → IsRead so_far
    → next_step_fault so_far.script s ≡ fault → IfOk (unless_fault fault (with_step n so_far s)) IsRead
stepped n so_far s (Some fault) inside is found = tt
stepped n so_far s None inside is found =
    let script = so_far.script in
    let fits = next_fits script s found in
    let step = step_fits (in_force script.image script.steps).memory s fits.1 in
    let size = length-append script.steps (s ∷ []) in
    let births = length (born_by script.steps) in
    let more = late_of n (length so_far.rows - 1) births s in
    let each = is.each in
    let row : length so_far.rows - 1 ≡ length so_far.scripts = omega arith in
    record {
      roster = is.roster;
      each = let after = after_step s in omega arith;
      closed = all_still_read so_far.late more 0 so_far.scripts is.closed;
      current = record {
        few = let room = fits.0 in omega arith;
        signals = signals_more script.steps s is.current.signals step.0;
        fills = fills_more script.image script.steps s is.current.fills step.1;
        free = λ rows none.
            let both = both_free rows so_far.late more none in
            let FreeAt : ℕ → Type 0 = λ k. late_fault rows (late_of n k births s) ≡ None in
            free_more rows (length so_far.scripts) script.steps s (is.current.free rows both.0)
            (free_by rows n (length so_far.scripts) births s (subst FreeAt row both.1));
      };
      late = All-append (λ l. l.row < length so_far.rows) so_far.late more is.late
          (late_within n (length so_far.rows - 1) births (length so_far.rows) s (omega arith));
    }

ended : (so_far : Reading) → open_blocks so_far.place ≡ 1 → IsRead so_far → IsRead (without_block so_far)
ended so_far inside is =
    let size = length-append so_far.scripts (so_far.script ∷ []) in
    let each = is.each in
    let IsIt : ℕ → Type 0 = λ n. IsReadScript so_far.late n so_far.script in
    let first : length so_far.scripts ≡ 0 + length so_far.scripts = omega arith in
    record {
      roster = is.roster;
      each = omega arith;
      closed = one_more_read so_far.late 0 so_far.scripts so_far.script is.closed (subst IsIt first is.current);
      current = none_read so_far.late (length (so_far.scripts ++ so_far.script ∷ []));
      late = is.late;
    }

outside : (place : Place) → may_come place keyword.Tracee ≡ true → place ≡ Outside
outside Outside may = refl
outside Loading may = cc may
outside Stepping may = cc may

inside : (place : Place) → may_come place keyword.Exit ≡ true → open_blocks place ≡ 1
inside Outside may = cc may
inside Loading may = refl
inside Stepping may = refl

inside_at_end : (place : Place) → may_come place keyword.End ≡ true → open_blocks place ≡ 1
inside_at_end Outside may = cc may
inside_at_end Loading may = refl
inside_at_end Stepping may = refl

line_kept : (n : ℕ) (so_far : Reading) (said : Line) → FitsAt so_far.place said → IsRead so_far
    → IfOk (with_line n so_far said) IsRead
line_kept n so_far line.Nothing fits is = is
line_kept n so_far (line.Opens row) fits is =
    opened so_far row (push_fault so_far.rows row) (outside so_far.place fits) is refl
line_kept n so_far (line.Loads part) fits is =
    if_ok (SameScript so_far.script) IsRead (with_script so_far) (part_of_script so_far.script part)
    (part_kept so_far.script.image so_far.script.steps part) (λ new same. with_part so_far new is same)
line_kept n so_far (line.Does s) fits is =
    stepped n so_far s (next_step_fault so_far.script s) (inside so_far.place fits) is refl
line_kept n so_far line.Closes fits is = ended so_far (inside_at_end so_far.place fits) is

said_kept : (n : ℕ) (so_far : Reading) (said : Result Line LineFault) → IfOk said (FitsAt so_far.place) → IsRead so_far
    → IfOk (with_cause said >>= with_line n so_far) IsRead
said_kept n so_far (Ok said) fits is = line_kept n so_far said fits is
said_kept n so_far (Err fault) fits is = tt

read_kept : (n : ℕ) (so_far : Reading) (text : List ℕ) → IsRead so_far → IfOk (line_read n so_far text) IsRead
read_kept n so_far text is =
    said_kept n so_far (line_of so_far.place (words_in text)) (line_fits so_far.place (words_in text)) is

-- ---- files

then_lines : (n : ℕ) (read : Result Reading Cause) (rest : Reading → Result Reading CaseError) → IfOk read IsRead
    → ((more : Reading) → IsRead more → IfOk (rest more) IsRead) → IfOk (at_line n read >>= rest) IsRead
then_lines n (Ok more) rest is kept = kept more is
then_lines n (Err fault) rest is kept = tt

lines_kept : (n : ℕ) (so_far : Reading) (lines : List (List ℕ)) → IsRead so_far
    → IfOk (read_after line_read n so_far lines) IsRead
unfolding read_after
lines_kept n so_far [] is = is
lines_kept n so_far (line ∷ lines) is =
    then_lines n (line_read n so_far line) (λ more. read_after line_read (n + 1) more lines) (read_kept n so_far line is)
    (λ more kept. lines_kept (n + 1) more lines kept)

nothing_known : IsRead nothing_read
nothing_known =
    record { roster = refl; each = refl; closed = tt; current = none_read [] 0; late = none_within 0 }

few_bytes : (few : Bool) (read : Result Reading CaseError) (fault : CaseError) → IfOk read IsRead
    → IfOk (cond few read (Err fault)) IsRead
few_bytes true read fault is = is
few_bytes false read fault is = tt

pub file_read : (text : List ℕ) → IfOk (lines_read text) IsRead
file_read text =
    few_bytes (nat_le (length text) most_bytes) (read_after line_read 1 nothing_read (lines_of text)) _
    (lines_kept 1 nothing_read (lines_of text) nothing_known)

-- ---- the case

script_known : (rows : List Row) (late : List Late) (row : ℕ) (script : Script) → late_fault rows late ≡ None
    → IsReadScript late row script → IsScript rows row script
script_known rows late row script none is =
    record {
      few = is.few;
      signals = is.signals;
      fills = is.fills;
      births = births_next rows row 0 script.steps (is.free rows none);
      alone = execs_alone rows row 0 script.steps (is.free rows none);
    }

scripts_known : (rows : List Row) (late : List Late) (row : ℕ) (scripts : List Script) → late_fault rows late ≡ None
    → AreRead late row scripts → AreScripts rows row scripts
scripts_known rows late row [] none are = tt
scripts_known rows late row (script ∷ scripts) none are =
    (script_known rows late row script none are.0, scripts_known rows late (row + 1) scripts none are.1)

closed_by : (place : Place) (late : Option CaseError) (fault : CaseError)
    → (cond (is_closed place) late (Some fault)) ≡ None → (open_blocks place ≡ 0) × (late ≡ None)
closed_by Outside late fault none = (refl, none)
closed_by Loading late fault none = cc none
closed_by Stepping late fault none = cc none

case_known : (last : ℕ) (all : Reading) (fault : Option CaseError) → IsRead all → closing_fault last all ≡ fault
    → IfOk (case_unless fault all) IsCase
case_known last all (Some fault) is found = tt
case_known last all None is found =
    let closed = closed_by all.place (late_fault all.rows all.late) _ found in
    record {
      roster = is.roster;
      each = let each = is.each in let open_none = closed.0 in omega arith;
      scripts = scripts_known all.rows all.late 0 all.scripts closed.1 is.closed;
    }

case_by : (last : ℕ) (read : Result Reading CaseError) → IfOk read IsRead
    → IfOk (read >>= λ all. case_unless (closing_fault last all) all) IsCase
case_by last (Ok all) is = case_known last all (closing_fault last all) is refl
case_by last (Err fault) is = tt

pub file_case : (text : List ℕ) → IfOk (case_of text) IsCase
file_case text = case_by (last_line text) (lines_read text) (file_read text)
