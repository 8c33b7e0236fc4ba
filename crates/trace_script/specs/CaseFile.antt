-- The case of a file: its rows, and the script of each; or the file's first fault, with its line. Lines are taken in
-- order. Within a line words, numbers and bytes come first, then what the lines before it refuse, in the order of
-- causes. After the last line, no block is open; and then each birth names the next child of its row, and an exec is
-- in a thread group of one row, in the order of their lines.
use Rattle.std.specs.Prelude.{◌==◌, ◌-◌, ◌++◌, ◌∷◌, [], ℕ, Bool, true, false, not, nat_le, nat_lt, List, length}
use Rattle.std.specs.Prelude.{Option, Some, None, Result, Ok, Err, count_by, if◌then◌else◌, slice_index_or}
use Rattle.stop_history.specs.declared.roster.Row.{Row}
use Rattle.stop_history.specs.declared.roster.RosterError.{RosterError}
use Rattle.stop_history.specs.History.{is_next_child}
use Rattle.stop_history.specs.Roster.{is_leader, push_fault, row_at, row_of}
use Rattle.text_lines.specs.Lines.{last_line, words_in}
use Rattle.text_lines.specs.Ranges.{◌>>=◌}
use Rattle.trace_pages.specs.declared.map_error.MapError.{MapError}
use Rattle.trace_pages.specs.declared.map_error.MapError.TheVariants as map_error
use Rattle.trace_pages.specs.FlatMemory.{FlatMemory, Full, RunEnd, mapped, run_end, stored}
use Rattle.trace_pages.specs.Memory.{map_refusal}
use Rattle.trace_script.specs.declared.case.keyword.Place.{Place}
use Rattle.trace_script.specs.declared.case.keyword.Place.TheVariants.{Loading, Outside, Stepping}
use Rattle.trace_script.specs.declared.case.late.Late.{Late}
use Rattle.trace_script.specs.declared.case.late.LateStep.{LateStep}
use Rattle.trace_script.specs.declared.case.late.LateStep.TheVariants as late_step
use Rattle.trace_script.specs.declared.cause.CaseError.{CaseError}
use Rattle.trace_script.specs.declared.cause.Cause.{Cause}
use Rattle.trace_script.specs.declared.cause.Cause.TheVariants as cause
use Rattle.trace_script.specs.declared.limits.TheConstants.{MOST_STEPS}
use Rattle.trace_script.specs.CaseLine.{Line, Part, line_of, no_image}
use Rattle.trace_script.specs.CaseLine as line
pub use Rattle.trace_script.specs.Births.{born_by, children_of}
use Rattle.trace_script.specs.Cause.{cause_of}
use Rattle.trace_script.specs.Reading.{read_file, with_cause}
use Rattle.trace_script.specs.Script.{Fill, Image, Script, Step}
use Rattle.trace_script.specs.Script as step
use Rattle.trace_script.specs.Signals.{can_arrive}

-- a case: its rows, and in the same order the script of each
pub record CaseContent : Type 0 where
  pub rows : List Row
  pub scripts : List Script

abbrev pub no_script : Script
no_script = record { image = no_image; steps = [] }

-- the script of the row at a place, or an empty one where there is no such row
abbrev pub script_at : List Script → ℕ → Script
script_at scripts row = slice_index_or scripts row no_script

-- what was read so far
pub record Reading : Type 0 where
  -- where the next line is
  pub place : Place
  -- of all blocks
  pub rows : List Row
  -- of the blocks that are closed
  pub scripts : List Script
  -- of the block that is open
  pub script : Script
  -- the births and execs, which are tested after the last line, in the order of lines
  pub late : List Late

abbrev pub nothing_read : Reading
nothing_read = record { place = Outside; rows = []; scripts = []; script = no_script; late = [] }

-- ---- images

-- the image that a program's steps leave in force
abbrev pub image_after : Image → Step → Image
image_after image (step.Exec path new) = new
image_after image other = image

-- the image in force after steps: that of the last exec, or else the first
abbrev pub in_force : Image → List Step → Image
in_force image [] = image
in_force image (step ∷ steps) = in_force (image_after image step) steps

abbrev pub page_loaded : Image → (page : ℕ) → Option MapError → Result Image Cause
page_loaded image page None = Ok (record { memory = mapped image.memory page; rip = image.rip; rsp = image.rsp })
page_loaded image page (Some map_error.Mapped) = Err cause.BadNumber
page_loaded image page (Some map_error.TooMany) = Err cause.TooMany
page_loaded image page (Some map_error.NoMemory) = Err cause.NoMemory

-- all bytes of a run are mapped
abbrev pub is_full : RunEnd → Bool
is_full Full = true
is_full other = false

abbrev pub is_mapped : FlatMemory → (address : ℕ) → (bytes : List ℕ) → Bool
is_mapped memory address bytes = is_full (run_end memory address (length bytes))

-- an image with one more part
abbrev pub part_loaded : Image → Part → Result Image Cause
part_loaded image (line.Page page) = page_loaded image page (map_refusal image.memory page)
part_loaded image (line.Data address bytes) =
    if is_mapped image.memory address bytes
    then Ok (record { memory = stored image.memory address bytes; rip = image.rip; rsp = image.rsp })
    else Err cause.Unmapped
part_loaded image (line.Start rip rsp) = Ok (record { memory = image.memory; rip = rip; rsp = rsp })

-- an exec with one more part of its image; other steps have none
abbrev pub part_of_step : Step → Part → Result Step Cause
part_of_step (step.Exec path image) part = part_loaded image part >>= λ new. Ok (step.Exec path new)
part_of_step other part = Ok other

-- the last step with one more part
abbrev pub part_of_last : List Step → Part → Result (List Step) Cause
part_of_last [] part = Ok []
part_of_last (last ∷ []) part = part_of_step last part >>= λ new. Ok (new ∷ [])
part_of_last (step ∷ next ∷ steps) part = part_of_last (next ∷ steps) part >>= λ more. Ok (step ∷ more)

-- the image that is loaded now is the script's own, or that of its last step, an exec
abbrev pub part_of_script : Script → Part → Result Script Cause
part_of_script script part =
    if length script.steps == 0
    then (part_loaded script.image part >>= λ image. Ok (record { image = image; steps = script.steps }))
    else (part_of_last script.steps part >>= λ steps. Ok (record { image = script.image; steps = steps }))

-- ---- steps

-- why a step cannot be: a fill where the image in force has no page, or a signal that cannot arrive
abbrev pub unless : Bool → Cause → Option Cause
unless fits fault = if fits then None else Some fault

abbrev pub fill_fault : FlatMemory → Option Fill → Option Cause
fill_fault memory None = None
fill_fault memory (Some fill) = unless (is_mapped memory fill.address fill.bytes) cause.Unmapped

abbrev pub step_fault : FlatMemory → Step → Option Cause
step_fault memory (step.Call nr arguments answer fill) = fill_fault memory fill
step_fault memory (step.Signal signal deadly) = unless (can_arrive signal) cause.Signal
step_fault memory other = None

-- there is room for a step, and this one has no fault
abbrev pub next_step_fault : Script → Step → Option Cause
next_step_fault script step =
    if nat_lt (length script.steps) MOST_STEPS
    then step_fault (in_force script.image script.steps).memory step
    else Some cause.TooMany

abbrev pub place_after : Step → Place
place_after (step.Exec path image) = Loading
place_after other = Stepping

-- what the late tests look at, and how many children its row has created before
abbrev pub late_of : (line row births : ℕ) → Step → List Late
late_of line row births (step.Fork child) =
    (record { line = line; row = row; births = births; step = late_step.Fork child }) ∷ []
late_of line row births (step.Thread child) =
    (record { line = line; row = row; births = births; step = late_step.Thread child }) ∷ []
late_of line row births (step.Exec path image) =
    (record { line = line; row = row; births = births; step = late_step.Exec }) ∷ []
late_of line row births other = []

abbrev pub with_step : (line : ℕ) → Reading → Step → Reading
with_step line so_far step =
    record {
      place = place_after step;
      rows = so_far.rows;
      scripts = so_far.scripts;
      script = record { image = so_far.script.image; steps = so_far.script.steps ++ step ∷ [] };
      late = so_far.late ++ late_of line (length so_far.rows - 1) (length (born_by so_far.script.steps)) step;
    }

-- ---- lines

abbrev pub unless_fault : {S : Type 0} → Option Cause → S → Result S Cause
unless_fault None new = Ok new
unless_fault (Some fault) new = Err fault

-- the cause of a roster's fault
abbrev pub roster_cause : Option RosterError → Option Cause
roster_cause None = None
roster_cause (Some fault) = Some (cause_of fault)

abbrev pub with_block : Reading → Row → Reading
with_block so_far row =
    record {
      place = Loading;
      rows = so_far.rows ++ row ∷ [];
      scripts = so_far.scripts;
      script = no_script;
      late = so_far.late;
    }

abbrev pub without_block : Reading → Reading
without_block so_far =
    record {
      place = Outside;
      rows = so_far.rows;
      scripts = so_far.scripts ++ so_far.script ∷ [];
      script = no_script;
      late = so_far.late;
    }

abbrev pub with_script : Reading → Script → Reading
with_script so_far script =
    record {
      place = so_far.place;
      rows = so_far.rows;
      scripts = so_far.scripts;
      script = script;
      late = so_far.late;
    }

-- what was read with one more line, or why it cannot follow
abbrev pub with_line : (line : ℕ) → Reading → Line → Result Reading Cause
with_line n so_far line.Nothing = Ok so_far
with_line n so_far (line.Opens row) = unless_fault (roster_cause (push_fault so_far.rows row)) (with_block so_far row)
with_line n so_far (line.Loads part) = part_of_script so_far.script part >>= λ script. Ok (with_script so_far script)
with_line n so_far (line.Does step) = unless_fault (next_step_fault so_far.script step) (with_step n so_far step)
with_line n so_far line.Closes = Ok (without_block so_far)

abbrev pub line_read : (line : ℕ) → Reading → List ℕ → Result Reading Cause
line_read n so_far line = with_cause (line_of so_far.place (words_in line)) >>= with_line n so_far

-- ---- after the last line

-- the child is of the kind that the call makes (fork(2); clone(2), CLONE_THREAD), and the next one of its parent
abbrev pub kind_fault : (fits : Bool) → (next : Bool) → Option Cause
kind_fault false next = Some cause.GroupMismatch
kind_fault true next = unless next cause.ChildOrder

abbrev pub fork_fault : List Row → (parent births : ℕ) → Option ℕ → Option Cause
fork_fault rows parent births None = Some cause.NoSuchTracee
fork_fault rows parent births (Some child) =
    kind_fault (is_leader (row_at rows child)) (is_next_child rows parent births (Some child))

abbrev pub thread_fault : List Row → (parent births : ℕ) → Option ℕ → Option Cause
thread_fault rows parent births None = Some cause.NoSuchTracee
thread_fault rows parent births (Some child) =
    kind_fault (not (is_leader (row_at rows child))) (is_next_child rows parent births (Some child))

-- a row's thread group has no other row
abbrev pub is_alone : List Row → ℕ → Bool
is_alone rows row = nat_le (count_by (λ q. q.tgid == (row_at rows row).tgid) rows) 1

abbrev pub late_step_fault : List Row → (row births : ℕ) → LateStep → Option Cause
late_step_fault rows row births (late_step.Fork child) = fork_fault rows row births (row_of rows child)
late_step_fault rows row births (late_step.Thread child) = thread_fault rows row births (row_of rows child)
late_step_fault rows row births late_step.Exec = unless (is_alone rows row) cause.SharedExec

abbrev pub late_cause : List Row → Late → Option Cause
late_cause rows late = late_step_fault rows late.row late.births late.step

abbrev pub or_after : (line : ℕ) → Option Cause → Option CaseError → Option CaseError
or_after n None more = more
or_after n (Some cause) more = Some (record { line = n; cause = cause })

-- the first late fault, with its line
abbrev pub late_fault : List Row → List Late → Option CaseError
late_fault rows [] = None
late_fault rows (late ∷ more) = or_after late.line (late_cause rows late) (late_fault rows more)

abbrev pub is_closed : Place → Bool
is_closed Outside = true
is_closed other = false

abbrev pub closing_fault : (last : ℕ) → Reading → Option CaseError
closing_fault last so_far =
    if is_closed so_far.place then late_fault so_far.rows so_far.late
    else Some (record { line = last; cause = cause.NoEnd })

abbrev pub case_unless : Option CaseError → Reading → Result CaseContent CaseError
case_unless None so_far = Ok (record { rows = so_far.rows; scripts = so_far.scripts })
case_unless (Some fault) so_far = Err fault

-- what the lines of a file say, one by one
abbrev pub lines_read : List ℕ → Result Reading CaseError
lines_read text = read_file line_read nothing_read text

-- the case of a file, or its first fault
abbrev pub case_of : List ℕ → Result CaseContent CaseError
case_of text = lines_read text >>= λ all. case_unless (closing_fault (last_line text) all) all
