-- What a litmus file says: its rows, its threads, their commands with repeats written out, and what it requires; or
-- its first fault, with its line. Lines are taken in order; within a line words and numbers come first, then what the
-- lines before it refuse, in the order of causes. After the last line no repeat is open.
use Rattle.std.specs.Prelude.{◌≡◌, ◌==◌, ◌+◌, ◌-◌, ◌++◌, ◌<◌, ◌≤◌, ◌∷◌, [], ℕ, suc, zero, nat_le, All, List, length}
use Rattle.std.specs.Prelude.{Bool, IsUtf8, bytes_eq, decimal, find, map, not, slice_index_or, Option, Some, None}
use Rattle.std.specs.Prelude.{IfSome, is_some, Result, Ok, Err, if◌then◌else◌}
use Rattle.std.specs.List.{range_with_len}
use Rattle.std.specs.Option.{ok_or}
use Rattle.stop_program.specs.declared.command.ThreadCommand.{ThreadCommand}
use Rattle.stop_program.specs.declared.voice.Voice.{Voice}
use Rattle.stop_program.specs.declared.reply.WantedReply.{WantedReply}
use Rattle.stop_program.specs.declared.command.Which.{Which}
use Rattle.stop_program.specs.declared.command.Which.TheVariants as which
use Rattle.stop_program.specs.Program.{Program, own_commands}
use Rattle.stop_program.specs.Replies.{GoForward}
use Rattle.stop_history.specs.Roster.{push_fault, row_of}
use Rattle.stop_history.specs.declared.roster.Row.{Row}
use Rattle.text_lines.specs.Lines.{last_line, words_in}
use Rattle.text_lines.specs.Ranges.{◌>>=◌}
use Rattle.trace_script.specs.CaseFile.{roster_cause, unless_fault}
use Rattle.trace_script.specs.Reading.{read_after, read_file, with_cause}
use Rattle.trace_script.specs.declared.cause.CaseError.{CaseError}
use Rattle.trace_script.specs.declared.cause.Cause.{Cause}
use Rattle.trace_script.specs.declared.cause.Cause.TheVariants.{NoEnd, NoSuchTracee, TooMany, UnknownWord}
use Rattle.litmus_files.specs.declared.draft.TheConstants.{MOST_COMMANDS, MOST_THREADS}
use Rattle.litmus_files.specs.declared.line.Aim.{Aim}
use Rattle.litmus_files.specs.declared.line.Aim.TheVariants as aim
use Rattle.litmus_files.specs.declared.line.LitmusCommand.{LitmusCommand}
use Rattle.litmus_files.specs.declared.line.LitmusReply.{LitmusReply}
use Rattle.litmus_files.specs.declared.line.Within.{Within}
use Rattle.litmus_files.specs.declared.line.Within.TheVariants as within
use Rattle.litmus_files.specs.declared.required.Condition.{Condition}
use Rattle.litmus_files.specs.declared.required.Condition.TheVariants as condition
use Rattle.litmus_files.specs.declared.required.NumberedCommand.{NumberedCommand}
use Rattle.litmus_files.specs.declared.required.NumberedCondition.{NumberedCondition}
use Rattle.litmus_files.specs.declared.required.NumberedLine.{NumberedLine}
use Rattle.litmus_files.specs.LitmusCondition.{Asked}
use Rattle.litmus_files.specs.LitmusCondition as asked
use Rattle.litmus_files.specs.LitmusGrammar.{IsLitmusCall, litmus_line_of}
use Rattle.litmus_files.specs.LitmusLine.{Said}
use Rattle.litmus_files.specs.LitmusLine as line

-- the rows, the name of each thread, if it has one, whether it is loud or quiet, the commands of all
-- threads, and the conditions, each in the order of the file
pub record LitmusContent : Type 0 where
  pub rows : List Row
  pub names : List (Option (List ℕ))
  pub voices : List Voice
  pub lines : List NumberedLine
  -- the number of the line of each reply and each condition, in their order
  pub requirements : List ℕ
  pub conditions : List NumberedCondition

-- the repeat that is open: how many times its commands are done, and those so far
pub record OpenRepeat : Type 0 where
  pub times : ℕ
  pub body : List NumberedCommand

-- what was read so far
pub record LitmusReading : Type 0 where
  pub rows : List Row
  -- of the threads that have begun
  pub names : List (Option (List ℕ))
  pub voices : List Voice
  -- the commands of all threads, those of the repeat that is open left out
  pub lines : List NumberedLine
  -- how many of them are of threads before the last one
  pub before : ℕ
  pub repeat : Option OpenRepeat
  pub requirements : List ℕ
  pub conditions : List NumberedCondition

abbrev pub no_lines : LitmusReading
no_lines = record {
  rows = [];
  names = [];
  voices = [];
  lines = [];
  before = 0;
  repeat = None;
  requirements = [];
  conditions = [];
}

-- ---- where a line is

abbrev pub within_by : Option OpenRepeat → (conditions threads : ℕ) → Within
within_by (Some repeat) conditions threads = within.Repeat
within_by None conditions threads =
    if not (conditions == 0) then within.Conditions
    else if threads == 0 then within.Rows else within.Thread

abbrev pub within_of : LitmusReading → Within
within_of so_far = within_by so_far.repeat (length so_far.conditions) (length so_far.names)

-- the number of the thread that began last, from 0: no command comes before the first thread
abbrev pub current_thread : LitmusReading → Result ℕ Cause
current_thread so_far = if length so_far.names == 0 then Err UnknownWord else Ok (length so_far.names - 1)

-- the place among the last thread's commands, from 0, past n more of them; the file has room for those
abbrev pub place_past : LitmusReading → (count : ℕ) → Result ℕ Cause
place_past so_far count =
    if nat_le (length so_far.lines + count) MOST_COMMANDS then Ok (length so_far.lines - so_far.before + count)
    else Err TooMany

-- ---- commands, with rows in place of thread ids

abbrev pub row_named : List Row → (tid : ℕ) → Result ℕ Cause
row_named rows tid = ok_or (row_of rows tid) NoSuchTracee

abbrev pub which_of : List Row → Aim → Result Which Cause
which_of rows (aim.Tid tid) = row_named rows tid >>= λ row. Ok (which.Row row)
which_of rows aim.Any = Ok which.Any
which_of rows (aim.Group pgid) = Ok (which.Group pgid)
which_of rows aim.It = Ok which.Last

abbrev pub wanted_row : List Row → (tid : Option ℕ) → Result (Option ℕ) Cause
wanted_row rows None = Ok None
wanted_row rows (Some tid) = row_named rows tid >>= λ row. Ok (Some row)

abbrev pub wanted_of : List Row → Option LitmusReply → Result (Option WantedReply) Cause
wanted_of rows None = Ok None
wanted_of rows (Some reply) =
    wanted_row rows reply.tid >>= λ row. Ok (Some (record { row = row; answer = reply.answer }))

-- a command whose place is not known yet: it leaves to 0
abbrev pub thread_command : List Row → LitmusCommand → Result ThreadCommand Cause
thread_command rows command = do
  about ← which_of rows command.aim
  needed ← wanted_of rows command.reply
  Ok (record { which = about; call = command.call; waits = command.waits; wanted = needed; leave_to = 0 })

-- a command of a thread, which goes on at a place after "no child"
abbrev pub leaving_line : (thread leave_to : ℕ) → NumberedCommand → NumberedLine
leaving_line thread leave_to numbered = record {
  line = record { thread = thread; command = record numbered.command { leave_to = leave_to } };
  number = numbered.number;
}

-- commands, `times` times over
unfoldable pub copies_of : (times : ℕ) → List NumberedCommand → List NumberedCommand
copies_of zero body = []
copies_of (suc times) body = copies_of times body ++ body

-- commands as those of the last thread; after "no child" each of them leaves to the place past the last one
abbrev pub commands_added : LitmusReading → List NumberedCommand → Result LitmusReading Cause
commands_added so_far commands = do
  thread ← current_thread so_far
  place ← place_past so_far (length commands)
  Ok (record so_far { lines = so_far.lines ++ map (leaving_line thread place) commands })

-- ---- what was read, with one more line

abbrev pub litmus_row_added : LitmusReading → Row → Result LitmusReading Cause
litmus_row_added so_far row =
    unless_fault (roster_cause (push_fault so_far.rows row)) (record so_far { rows = so_far.rows ++ row ∷ [] })

abbrev pub thread_added : LitmusReading → Voice → (name : Option (List ℕ)) → Result LitmusReading Cause
thread_added so_far voice name =
    if nat_le MOST_THREADS (length so_far.names) then Err TooMany
    else if is_some so_far.repeat then Err NoEnd
    else Ok (record so_far {
      names = so_far.names ++ name ∷ [];
      voices = so_far.voices ++ voice ∷ [];
      before = length so_far.lines;
    })

abbrev pub repeat_opened : LitmusReading → (times : ℕ) → LitmusReading
repeat_opened so_far times = record so_far { repeat = Some (record { times = times; body = [] }) }

-- the commands of a repeat are written out at its end
abbrev pub repeat_ended : LitmusReading → Option OpenRepeat → Result LitmusReading Cause
repeat_ended so_far None = Err UnknownWord
repeat_ended so_far (Some repeat) =
    commands_added (record so_far { repeat = None }) (copies_of repeat.times repeat.body)

-- a command is one of the repeat that is open, or else is done once
abbrev pub command_in : LitmusReading → Option OpenRepeat → NumberedCommand → Result LitmusReading Cause
command_in so_far None command = commands_added so_far (command ∷ [])
command_in so_far (Some repeat) command =
    Ok (record so_far { repeat = Some (record repeat { body = repeat.body ++ command ∷ [] }) })

-- a reply has the next number, and its line is noted
abbrev pub numbered_command : LitmusReading → ThreadCommand → NumberedCommand
numbered_command so_far command = record {
  command = command;
  number = if is_some command.wanted then length so_far.requirements + 1 else 0;
}

abbrev pub reply_required : (n : ℕ) → LitmusReading → ThreadCommand → LitmusReading
reply_required n so_far command = record so_far {
  requirements = if is_some command.wanted then so_far.requirements ++ n ∷ [] else so_far.requirements;
}

-- a command, of the line of number n
abbrev pub litmus_command_added : (n : ℕ) → LitmusReading → LitmusCommand → Result LitmusReading Cause
litmus_command_added n so_far command =
    thread_command so_far.rows command
    >>= λ made. command_in (reply_required n so_far made) so_far.repeat (numbered_command so_far made)

-- ---- conditions

-- a thread is printed by its name, or by its number where it has none
abbrev pub is_printed_as : (thread : ℕ) → (name : Option (List ℕ)) → (word : List ℕ) → Bool
is_printed_as thread None word = bytes_eq (decimal (thread + 1)) word
is_printed_as thread (Some name) word = bytes_eq name word

-- the first thread that is printed as a word, by its place among all threads
abbrev pub thread_printed_as : (names : List (Option (List ℕ))) → (word : List ℕ) → Option ℕ
thread_printed_as names word =
    find (λ thread. is_printed_as thread (slice_index_or names thread None) word) (range_with_len 0 (length names))

-- with the row of its thread id, and the thread of its name, if there is one
abbrev pub condition_of : List Row → (names : List (Option (List ℕ))) → Asked → Result Condition Cause
condition_of rows names (asked.Tid tid sense state) =
    row_named rows tid >>= λ row. Ok (condition.Tracee row sense state)
condition_of rows names (asked.Any sense state) = Ok (condition.SomeTracee sense state)
condition_of rows names (asked.Thread name sense) =
    ok_or (thread_printed_as names name) UnknownWord >>= λ t. Ok (condition.Thread t sense)

-- a condition of the line of number n
abbrev pub with_condition : (n : ℕ) → LitmusReading → Condition → LitmusReading
with_condition n so_far found = record so_far {
  requirements = so_far.requirements ++ n ∷ [];
  conditions = so_far.conditions ++ (record { condition = found; number = length so_far.requirements + 1 }) ∷ [];
}

abbrev pub condition_added : (n : ℕ) → LitmusReading → Asked → Result LitmusReading Cause
condition_added n so_far asked =
    condition_of so_far.rows so_far.names asked >>= λ found. Ok (with_condition n so_far found)

-- ---- lines

abbrev pub litmus_line_added : (n : ℕ) → LitmusReading → Said → Result LitmusReading Cause
litmus_line_added n so_far line.Nothing = Ok so_far
litmus_line_added n so_far (line.Declares row) = litmus_row_added so_far row
litmus_line_added n so_far (line.Thread voice name) = thread_added so_far voice name
litmus_line_added n so_far (line.Repeat times) = Ok (repeat_opened so_far times)
litmus_line_added n so_far line.End = repeat_ended so_far so_far.repeat
litmus_line_added n so_far (line.Command command) = litmus_command_added n so_far command
litmus_line_added n so_far (line.Only asked) = condition_added n so_far asked

-- what one more line, of number n, makes of what was read before it, or its first fault
abbrev pub litmus_line_read : (n : ℕ) → LitmusReading → List ℕ → Result LitmusReading Cause
litmus_line_read n so_far line =
    with_cause (litmus_line_of (within_of so_far) (words_in line)) >>= litmus_line_added n so_far

-- ---- files

-- what lines make of what was read before them, or their first fault; the first of them has number n
abbrev pub litmus_lines_after : (n : ℕ) → LitmusReading → List (List ℕ) → Result LitmusReading CaseError
litmus_lines_after n so_far lines = read_after litmus_line_read n so_far lines

-- what the lines of a file say, one by one
abbrev pub litmus_lines_read : List ℕ → Result LitmusReading CaseError
litmus_lines_read text = read_file litmus_line_read no_lines text

abbrev pub content_unless_open : (last : ℕ) → LitmusReading → Option OpenRepeat → Result LitmusContent CaseError
content_unless_open last so_far None =
    Ok (record {
      rows = so_far.rows;
      names = so_far.names;
      voices = so_far.voices;
      lines = so_far.lines;
      requirements = so_far.requirements;
      conditions = so_far.conditions;
    })
content_unless_open last so_far (Some repeat) = Err (record { line = last; cause = NoEnd })

-- the content of a file, or its first fault
abbrev pub litmus_content_of : List ℕ → Result LitmusContent CaseError
litmus_content_of text =
    litmus_lines_read text >>= λ all. content_unless_open (last_line text) all all.repeat

-- ---- ranges

abbrev pub AreLitmusCalls : List NumberedCommand → Type 0
AreLitmusCalls body = All (λ numbered. IsLitmusCall numbered.command.call) body

-- names are text
abbrev pub AreNames : List (Option (List ℕ)) → Type 0
AreNames names = All (λ name. IfSome name IsUtf8) names

-- lines of a program, as its searches take them
abbrev pub plain_lines : List NumberedLine → Program
plain_lines lines = map (λ numbered. numbered.line) lines

-- what is known of what was read: names are text, each thread has a voice, calls are in range, each command is of a
-- thread that has begun and leaves to a place past its own, and the lines after those before are the last thread's
pub record IsLitmusReading (so_far : LitmusReading) : Type 0 where
  pub few : length so_far.names ≤ MOST_THREADS
  pub names : AreNames so_far.names
  pub voices : length so_far.voices ≡ length so_far.names
  pub calls : All (λ numbered. IsLitmusCall numbered.line.command.call) so_far.lines
  pub threads : All (λ numbered. numbered.line.thread < length so_far.names) so_far.lines
  pub forward : GoForward (own_commands (plain_lines so_far.lines))
  pub own : so_far.before + length (own_commands (plain_lines so_far.lines) (length so_far.names - 1))
      ≤ length so_far.lines
  pub body : IfSome so_far.repeat (λ repeat. AreLitmusCalls repeat.body)
