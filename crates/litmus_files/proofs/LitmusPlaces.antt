-- The threads of a litmus file leave loops forward, whatever its lines say: after "no child" a command of a repeat
-- leads past the end of the repeat, and any other to the next command.
use Rattle.std.proofs.Common.{refl, ◌≡◌, ◌<◌, ◌≤◌, ◌-◌, ◌+◌, ◌++◌, ◌∷◌, [], ℕ, Bool, true, false, cond, List, Option}
use Rattle.std.proofs.Common.{Some, None, Result, Ok, Err, ap, arith, eqb, is_some, length, map, nat_le, slice_get}
use Rattle.std.proofs.Common.{subst, sym}
use Rattle.std.specs.List.{All}
use Rattle.std.proofs.lemmas.Bool.Decides.{nat_tests}
use Rattle.std.proofs.lemmas.List.{length_push}
use Rattle.std.proofs.lemmas.List.Elements.{All-append, All-map, All-nil, All-weaker}
use Rattle.stop_program.specs.declared.command.ThreadCommand.{ThreadCommand}
use Rattle.stop_program.specs.declared.voice.Voice.{Voice}
use Rattle.stop_program.specs.Program.{own_commands}
use Rattle.stop_program.specs.Replies.{GoForward}
use Rattle.stop_history.specs.Roster.{push_fault}
use Rattle.text_lines.specs.Lines.{last_line, lines_of, words_in}
use Rattle.text_lines.specs.Ranges.{◌>>=◌}
use Rattle.trace_script.specs.CaseFile.{roster_cause, unless_fault}
use Rattle.trace_script.specs.Reading.{at_line, most_bytes, read_after, with_cause}
use Rattle.trace_script.specs.declared.cause.CaseError.{CaseError}
use Rattle.trace_script.specs.declared.cause.Cause.{Cause}
use Rattle.trace_script.specs.declared.cause.Cause.TheVariants.{NoEnd, TooMany, UnknownWord}
use Rattle.litmus_files.specs.declared.draft.TheConstants.{MOST_COMMANDS, MOST_THREADS}
use Rattle.litmus_files.specs.LitmusLine.{Said}
use Rattle.litmus_files.specs.LitmusLine as line
use Rattle.litmus_files.specs.declared.required.NumberedCommand.{NumberedCommand}
use Rattle.litmus_files.specs.declared.required.NumberedLine.{NumberedLine}
use Rattle.litmus_files.specs.LitmusFile.{LitmusContent, LitmusReading, OpenRepeat, command_in, commands_added}
use Rattle.litmus_files.specs.LitmusFile.{condition_of, content_unless_open, copies_of, current_thread, leaving_line}
use Rattle.litmus_files.specs.LitmusFile.{litmus_content_of, litmus_line_added, litmus_line_read, litmus_lines_after}
use Rattle.litmus_files.specs.LitmusFile.{litmus_lines_read, no_lines, numbered_command, place_past, plain_lines}
use Rattle.litmus_files.specs.LitmusFile.{repeat_ended, reply_required, thread_command}
use Rattle.litmus_files.specs.LitmusFile.{with_condition, within_of}
use Rattle.litmus_files.specs.LitmusGrammar.{litmus_line_of}
use Rattle.litmus_files.proofs.LitmusForward.{forward_added, own_added, own_begun}

-- ---- results

pub same_ok : {A E : Type 0} (x y : A) (r : Result A E) → r ≡ Ok x → r ≡ Ok y → x ≡ y
same_ok x y r first second = cc

pub bind_ok : {A B E : Type 0} (r : Result A E) (next : A → Result B E) (new : B) → (r >>= next) ≡ Ok new
    → (a : A) × (r ≡ Ok a) × (next a ≡ Ok new)
bind_ok (Ok a) next new is = (a, refl, is)
bind_ok (Err cause) next new is = absurd (let clash : Err cause ≡ Ok new = is in cc)

pub unless_ok : (fault : Option Cause) (x new : LitmusReading) → unless_fault fault x ≡ Ok new → x ≡ new
unless_ok None x new is = same_ok x new (Ok x) refl is
unless_ok (Some fault) x new is = absurd (let clash : Err fault ≡ Ok new = is in cc)

-- ---- what is known of the places of commands

-- each command is of a thread that has begun and leaves to a place past its own, and the lines after those before are
-- the last thread's
pub record ArePlaced (threads before : ℕ) (lines : List NumberedLine) : Type 0 where
  pub begun : All (λ n. n.line.thread < threads) lines
  pub forward : GoForward (own_commands (plain_lines lines))
  pub own : before + length (own_commands (plain_lines lines) (threads - 1)) ≤ length lines

abbrev pub IsPlaced : LitmusReading → Type 0
IsPlaced so_far = ArePlaced (length so_far.names) so_far.before so_far.lines

-- ---- commands of the last thread

below_last : (n thread : ℕ) → eqb n 0 ≡ false → n - 1 ≡ thread → thread < n
below_last n thread some is = grind (arith, nat_tests)

below : (n thread : ℕ) (none : Bool) → eqb n 0 ≡ none → cond none (Err UnknownWord) (Ok (n - 1)) ≡ Ok thread
    → thread < n
below n thread true none is = absurd (let clash : Err UnknownWord ≡ Ok thread = is in cc)
below n thread false some is = below_last n thread some (same_ok (n - 1) thread (Ok (n - 1)) refl is)

current_is_below : (so_far : LitmusReading) (thread : ℕ) → current_thread so_far ≡ Ok thread
    → thread < length so_far.names
current_is_below so_far thread is = below (length so_far.names) thread (eqb (length so_far.names) 0) refl is

current_by : (n thread : ℕ) (none : Bool) → cond none (Err UnknownWord) (Ok (n - 1)) ≡ Ok thread → n - 1 ≡ thread
current_by n thread true is = absurd (let clash : Err UnknownWord ≡ Ok thread = is in cc)
current_by n thread false is = same_ok (n - 1) thread (Ok (n - 1)) refl is

current_is_last : (so_far : LitmusReading) (thread : ℕ) → current_thread so_far ≡ Ok thread
    → length so_far.names - 1 ≡ thread
current_is_last so_far thread is = current_by (length so_far.names) thread (eqb (length so_far.names) 0) is

past_by : (n place : ℕ) (room : Bool) → cond room (Ok n) (Err TooMany) ≡ Ok place → n ≡ place
past_by n place true is = same_ok n place (Ok n) refl is
past_by n place false is = absurd (let clash : Err TooMany ≡ Ok place = is in cc)

place_is : (so_far : LitmusReading) (count place : ℕ) → place_past so_far count ≡ Ok place
    → length so_far.lines - so_far.before + count ≡ place
place_is so_far count place is =
    past_by (length so_far.lines - so_far.before + count) place
    (nat_le (length so_far.lines + count) MOST_COMMANDS) is

own_few : (threads before thread : ℕ) (lines : List NumberedLine) → ArePlaced threads before lines
    → threads - 1 ≡ thread → before + length (own_commands (plain_lines lines) thread) ≤ length lines
own_few threads before thread lines placed last =
    subst (λ t. before + length (own_commands (plain_lines lines) t) ≤ length lines) last placed.own

room_past : (threads before thread place : ℕ) (lines : List NumberedLine) (commands : List NumberedCommand)
    → ArePlaced threads before lines → threads - 1 ≡ thread → length lines - before + length commands ≡ place
    → length (own_commands (plain_lines lines) thread) + length commands ≤ place
room_past threads before thread place lines commands placed last past =
    let few = own_few threads before thread lines placed last in omega (arith, few, past)

abbrev with_lines : List NumberedLine → (thread place : ℕ) → List NumberedCommand → List NumberedLine
with_lines lines thread place commands = lines ++ map (leaving_line thread place) commands

own_of_last : (threads before thread place : ℕ) (lines : List NumberedLine) (commands : List NumberedCommand)
    → ArePlaced threads before lines → threads - 1 ≡ thread
    → before + length (own_commands (plain_lines (with_lines lines thread place commands)) (threads - 1))
    ≤ length (with_lines lines thread place commands)
own_of_last threads before thread place lines commands placed last =
    let new : List NumberedLine = with_lines lines thread place commands in
    subst (λ t. before + length (own_commands (plain_lines new) t) ≤ length new) (sym last)
    (own_added lines thread place before commands (own_few threads before thread lines placed last))

pub lines_placed : (threads before thread place : ℕ) (lines : List NumberedLine) (commands : List NumberedCommand)
    → ArePlaced threads before lines → thread < threads → threads - 1 ≡ thread
    → length lines - before + length commands ≡ place
    → ArePlaced threads before (with_lines lines thread place commands)
lines_placed threads before thread place lines commands placed within last past =
    let Within : NumberedLine → Type 0 = λ l. l.line.thread < threads in
    record {
      begun = All-append Within lines (map (leaving_line thread place) commands) placed.begun
          (All-map Within (leaving_line thread place) commands (λ k d less. within));
      forward = forward_added lines thread place commands placed.forward
          (room_past threads before thread place lines commands placed last past);
      own = own_of_last threads before thread place lines commands placed last;
    }

abbrev pub with_commands : LitmusReading → (thread place : ℕ) → List NumberedCommand → LitmusReading
with_commands so_far thread place commands =
    record so_far { lines = so_far.lines ++ map (leaving_line thread place) commands }

-- commands are added to the last thread, past those that it has
pub record IsAdded (so_far new : LitmusReading) (commands : List NumberedCommand) : Type 0 where
  pub thread : ℕ
  pub place : ℕ
  pub begun : thread < length so_far.names
  pub last : length so_far.names - 1 ≡ thread
  pub past : length so_far.lines - so_far.before + length commands ≡ place
  pub is : with_commands so_far thread place commands ≡ new

pub is_added : (so_far new : LitmusReading) (commands : List NumberedCommand) → commands_added so_far commands ≡ Ok new
    → IsAdded so_far new commands
is_added so_far new commands is =
    let at = bind_ok (current_thread so_far)
    (λ thread. place_past so_far (length commands) >>= λ place. Ok (with_commands so_far thread place commands)) new
    is in
    let past = bind_ok (place_past so_far (length commands)) (λ place. Ok (with_commands so_far at.0 place commands))
    new at.2 in
    record {
      thread = at.0;
      place = past.0;
      begun = current_is_below so_far at.0 at.1;
      last = current_is_last so_far at.0 at.1;
      past = place_is so_far (length commands) past.0 past.1;
      is = same_ok (with_commands so_far at.0 past.0 commands) new _ refl past.2;
    }

added_placed : (so_far new : LitmusReading) (commands : List NumberedCommand) → IsPlaced so_far
    → IsAdded so_far new commands → IsPlaced new
added_placed so_far new commands placed added =
    subst IsPlaced added.is
    (lines_placed (length so_far.names) so_far.before added.thread added.place so_far.lines commands placed added.begun
    added.last added.past)

-- ---- each line

abbrev pub with_thread : LitmusReading → Voice → Option (List ℕ) → LitmusReading
with_thread so_far voice name = record so_far {
  names = so_far.names ++ name ∷ [];
  voices = so_far.voices ++ voice ∷ [];
  before = length so_far.lines;
}

-- a thread that begins has no commands yet
pub begun_placed : (so_far : LitmusReading) (voice : Voice) (name : Option (List ℕ)) → IsPlaced so_far
    → IsPlaced (with_thread so_far voice name)
begun_placed so_far voice name placed =
    let more = length_push so_far.names name in
    let Below : ℕ → NumberedLine → Type 0 = λ n l. l.line.thread < n in
    record {
      begun = All-weaker (Below (length so_far.names)) (Below (length (so_far.names ++ name ∷ [])))
          (λ l less. omega (arith, more, less)) so_far.lines placed.begun;
      forward = placed.forward;
      own = own_begun so_far.lines (length so_far.names) (length (so_far.names ++ name ∷ []) - 1) placed.begun
          (omega (arith, more));
    }

thread_placed : (so_far new : LitmusReading) (voice : Voice) (name : Option (List ℕ)) (full within : Bool)
    → IsPlaced so_far
    → cond full (Err TooMany) (cond within (Err NoEnd) (Ok (with_thread so_far voice name))) ≡ Ok new → IsPlaced new
thread_placed so_far new voice name true within placed is = absurd (let clash : Err TooMany ≡ Ok new = is in cc)
thread_placed so_far new voice name false true placed is = absurd (let clash : Err NoEnd ≡ Ok new = is in cc)
thread_placed so_far new voice name false false placed is =
    subst IsPlaced (same_ok (with_thread so_far voice name) new _ refl is) (begun_placed so_far voice name placed)

ended_placed : (so_far new : LitmusReading) (repeat : Option OpenRepeat) → IsPlaced so_far
    → repeat_ended so_far repeat ≡ Ok new → IsPlaced new
ended_placed so_far new None placed is = absurd (let clash : Err UnknownWord ≡ Ok new = is in cc)
ended_placed so_far new (Some repeat) placed is =
    let commands : List NumberedCommand = copies_of repeat.times repeat.body in
    let closed : LitmusReading = record so_far { repeat = None } in
    added_placed closed new commands placed (is_added closed new commands is)

in_placed : (so_far new : LitmusReading) (repeat : Option OpenRepeat) (numbered : NumberedCommand) → IsPlaced so_far
    → command_in so_far repeat numbered ≡ Ok new → IsPlaced new
in_placed so_far new None numbered placed is =
    added_placed so_far new (numbered ∷ []) placed (is_added so_far new (numbered ∷ []) is)
in_placed so_far new (Some repeat) numbered placed is =
    subst IsPlaced
    (same_ok (record so_far { repeat = Some (record repeat { body = repeat.body ++ numbered ∷ [] }) }) new _ refl is)
    placed

line_placed : (n : ℕ) (so_far new : LitmusReading) (said : Said) → IsPlaced so_far
    → litmus_line_added n so_far said ≡ Ok new → IsPlaced new
line_placed n so_far new line.Nothing placed is = subst IsPlaced (same_ok so_far new _ refl is) placed
line_placed n so_far new (line.Declares row) placed is =
    subst IsPlaced
    (unless_ok (roster_cause (push_fault so_far.rows row)) (record so_far { rows = so_far.rows ++ row ∷ [] }) new is)
    placed
line_placed n so_far new (line.Thread voice name) placed is =
    thread_placed so_far new voice name (nat_le MOST_THREADS (length so_far.names))
    (is_some so_far.repeat) placed is
line_placed n so_far new (line.Repeat times) placed is =
    subst IsPlaced
    (same_ok (record so_far { repeat = Some (record { times = times; body = [] }) }) new _ refl is) placed
line_placed n so_far new line.End placed is = ended_placed so_far new so_far.repeat placed is
line_placed n so_far new (line.Only asked) placed is =
    let made = bind_ok (condition_of so_far.rows so_far.names asked) (λ c. Ok (with_condition n so_far c)) new is in
    subst IsPlaced (same_ok (with_condition n so_far made.0) new _ refl made.2) placed
line_placed n so_far new (line.Command command) placed is =
    let made = bind_ok (thread_command so_far.rows command)
    (λ c. command_in (reply_required n so_far c) so_far.repeat (numbered_command so_far c)) new is in
    in_placed (reply_required n so_far made.0) new so_far.repeat (numbered_command so_far made.0) placed made.2

read_placed : (n : ℕ) (so_far new : LitmusReading) (text : List ℕ) → IsPlaced so_far
    → litmus_line_read n so_far text ≡ Ok new → IsPlaced new
read_placed n so_far new text placed is =
    let said = bind_ok (with_cause (litmus_line_of (within_of so_far) (words_in text)))
    (litmus_line_added n so_far) new is in
    line_placed n so_far new said.0 placed said.2

-- ---- the whole file

at_line_ok : {A : Type 0} (n : ℕ) (made : Result A Cause) (new : A) → at_line n made ≡ Ok new → made ≡ Ok new
at_line_ok n (Ok made) new is = ap Ok (same_ok made new (at_line n (Ok made)) refl is)
at_line_ok n (Err cause) new is =
    absurd (let clash : Err (record { line = n; cause = cause }) ≡ Ok new = is in cc)

after_placed : (n : ℕ) (so_far new : LitmusReading) (lines : List (List ℕ)) → IsPlaced so_far
    → litmus_lines_after n so_far lines ≡ Ok new → IsPlaced new
unfolding read_after
after_placed n so_far new [] placed is = subst IsPlaced (same_ok so_far new _ refl is) placed
after_placed n so_far new (first ∷ lines) placed is =
    let read = bind_ok (at_line n (litmus_line_read n so_far first)) (λ more. litmus_lines_after (n + 1) more lines)
    new is in
    after_placed (n + 1) read.0 new lines
    (read_placed n so_far read.0 first placed (at_line_ok n (litmus_line_read n so_far first) read.0 read.1)) read.2

nowhere : (at : ℕ) (command : ThreadCommand) → slice_get [] at ≡ Some command → at < command.leave_to
nowhere at command is = absurd (let clash : None ≡ Some command = is in cc)

pub nothing_placed : IsPlaced no_lines
nothing_placed = record {
  begun = All-nil (λ (n : NumberedLine). n.line.thread < 0);
  forward = λ thread at command is. nowhere at command is;
  own = omega arith;
}

few_by : (few : Bool) (lines : Result LitmusReading CaseError) (fault : CaseError) (new : LitmusReading)
    → cond few lines (Err fault) ≡ Ok new → lines ≡ Ok new
few_by true lines fault new is = is
few_by false lines fault new is = absurd (let clash : Err fault ≡ Ok new = is in cc)

-- what is known of the lines of a file: each command is of one of its threads, and leaves to a place past its own
pub record AreKnown (content : LitmusContent) : Type 0 where
  pub threads : All (λ n. n.line.thread < length content.names) content.lines
  pub forward : GoForward (own_commands (plain_lines content.lines))

closed_known : (last : ℕ) (all : LitmusReading) (repeat : Option OpenRepeat) (content : LitmusContent) → IsPlaced all
    → content_unless_open last all repeat ≡ Ok content → AreKnown content
closed_known last all None content placed is =
    subst AreKnown
    (same_ok (record {
      rows = all.rows;
      names = all.names;
      voices = all.voices;
      lines = all.lines;
      requirements = all.requirements;
      conditions = all.conditions;
    }) content _ refl is)
    (record { threads = placed.begun; forward = placed.forward })
closed_known last all (Some repeat) content placed is =
    absurd (let clash : Err (record { line = last; cause = NoEnd }) ≡ Ok content = is in cc)

-- what is known of the lines of a file follows from what the file says
pub known_by_text : (text : List ℕ) (content : LitmusContent) → litmus_content_of text ≡ Ok content → AreKnown content
known_by_text text content is =
    let all = bind_ok (litmus_lines_read text) (λ all. content_unless_open (last_line text) all all.repeat) content is
    in
    closed_known (last_line text) all.0 all.0.repeat content
    (after_placed 1 no_lines all.0 (lines_of text) nothing_placed
    (few_by (nat_le (length text) most_bytes) (litmus_lines_after 1 no_lines (lines_of text))
    (record { line = 1; cause = TooMany }) all.0 all.1))
    all.2
