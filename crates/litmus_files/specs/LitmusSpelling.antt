-- A program as a litmus file: a line for each row, then for each thread its head and a line for each of its commands.
-- One space is between words, and a line feed ends each line. Repeats, replies and conditions have no line here.
use Rattle.std.specs.Prelude.{◌≡◌, ◌+◌, ◌++◌, ◌<◌, ◌≤◌, ◌∷◌, [], ℕ, suc, zero, Bool, true, false, IsTrue, List, length}
use Rattle.std.specs.Prelude.{Option, Some, None, IfSome, codes}
use Rattle.std.specs.List.{All}
use Rattle.stop_program.specs.declared.board_call.BoardCall.{BoardCall}
use Rattle.stop_program.specs.declared.board_call.BoardCall.TheVariants as call
use Rattle.stop_program.specs.declared.command.ThreadCommand.{ThreadCommand}
use Rattle.stop_program.specs.declared.command.Which.{Which}
use Rattle.stop_program.specs.declared.command.Which.TheVariants as which
use Rattle.stop_program.specs.declared.voice.Voice.{Voice}
use Rattle.stop_program.specs.declared.voice.Voice.TheVariants.{Loud, Quiet}
use Rattle.stop_program.specs.Program.{own_commands}
use Rattle.stop_program.specs.Replies.{without_reply}
use Rattle.stop_history.specs.declared.roster.Row.{Row}
use Rattle.stop_history.specs.Roster.{IsRoster, is_id}
use Rattle.text_lines.specs.Lines.{line_text}
use Rattle.trace_script.specs.Reading.{most_bytes}
use Rattle.replay_files.specs.Spelling.{IsSpelledDeath, IsSpelledStop, rows_text}
use Rattle.litmus_files.specs.declared.draft.TheConstants.{MOST_COMMANDS, MOST_THREADS}
use Rattle.litmus_files.specs.declared.required.NumberedLine.{NumberedLine}
use Rattle.litmus_files.specs.CommandText.{command_text}
use Rattle.litmus_files.specs.LitmusFile.{LitmusContent, plain_lines}
use Rattle.litmus_files.specs.LitmusGrammar.{IsLitmusCall, is_thread_name}

-- ---- lines

abbrev pub voice_word : Voice → List ℕ
voice_word Loud = codes "thread"
voice_word Quiet = codes "quiet"

-- a thread without a name has no word for it
abbrev pub name_words : Option (List ℕ) → List (List ℕ)
name_words None = []
name_words (Some name) = name ∷ []

-- the line that begins a thread
abbrev pub head_words : Voice → (name : Option (List ℕ)) → List (List ℕ)
head_words voice name = voice_word voice ∷ name_words name

abbrev pub commands_text : List Row → List ThreadCommand → List ℕ
commands_text rows [] = []
commands_text rows (command ∷ commands) = (command_text rows command ++ 10 ∷ []) ++ commands_text rows commands

-- threads of these names and voices, the first of which has this number
abbrev pub spelled_threads : List Row → (commands : ℕ → List ThreadCommand) → (thread : ℕ)
    → (names : List (Option (List ℕ))) → List Voice → List ℕ
spelled_threads rows commands thread [] voices = []
spelled_threads rows commands thread (name ∷ names) [] = []
spelled_threads rows commands thread (name ∷ names) (voice ∷ voices) =
    line_text (head_words voice name)
    ++ (commands_text rows (commands thread) ++ spelled_threads rows commands (thread + 1) names voices)

-- the commands of each thread
abbrev pub thread_commands : LitmusContent → (thread : ℕ) → List ThreadCommand
thread_commands content thread = own_commands (plain_lines content.lines) thread

abbrev pub litmus_spelling : LitmusContent → List ℕ
litmus_spelling content =
    rows_text content.rows
    ++ spelled_threads content.rows (thread_commands content) 0 content.names content.voices

-- ---- what can be spelled

-- the ranges of a call that a file can write, beside those of IsLitmusCall
abbrev pub IsSpelledCall : BoardCall → Type 0
IsSpelledCall (call.Publish stop) = IsSpelledStop stop
IsSpelledCall (call.Exit death) = IsSpelledDeath death
IsSpelledCall other = Unit {0}

-- a TARGET: a TID, `any` or `group PGID`
abbrev pub IsTarget : List Row → Which → Type 0
IsTarget rows (which.Row row) = row < length rows
IsTarget rows which.Any = Unit {0}
IsTarget rows (which.Group pgid) = IsTrue (is_id pgid)
IsTarget rows which.Last = ⊥

-- a claim, a peek, a wait and a look have a TARGET, a resume a TID or `it`, all others a TID
abbrev pub IsSpelledWhich : List Row → BoardCall → Which → Type 0
IsSpelledWhich rows (call.Look tracer) about = IsTarget rows about
IsSpelledWhich rows (call.Claim tracer) about = IsTarget rows about
IsSpelledWhich rows (call.Resume tracer how) which.Last = Unit {0}
IsSpelledWhich rows asked (which.Row row) = row < length rows
IsSpelledWhich rows asked other = ⊥

-- a claim and a look that wait are `wait` and `look`, others `claim` and `peek`; a question for the state and a resume
-- never wait, and all others always do
abbrev pub IsSpelledWait : BoardCall → (waits : Bool) → Type 0
IsSpelledWait (call.Publish stop) waits = waits ≡ true
IsSpelledWait (call.Exit death) waits = waits ≡ true
IsSpelledWait call.Kill waits = waits ≡ true
IsSpelledWait (call.ExitGroup code) waits = waits ≡ true
IsSpelledWait call.State waits = waits ≡ false
IsSpelledWait (call.Resume tracer how) waits = waits ≡ false
IsSpelledWait (call.Look tracer) waits = Unit {0}
IsSpelledWait (call.Claim tracer) waits = Unit {0}

-- a command that a line can say
pub record IsSpelledThreadCommand (rows : List Row) (command : ThreadCommand) : Type 0 where
  pub call : IsLitmusCall command.call
  pub spelled : IsSpelledCall command.call
  pub about : IsSpelledWhich rows command.call command.which
  pub waits : IsSpelledWait command.call command.waits

-- a thread's commands from a place on, without replies, each of which goes on to the next one
abbrev pub lines_in_turn : (thread at : ℕ) → List ThreadCommand → List NumberedLine
lines_in_turn thread at [] = []
lines_in_turn thread at (command ∷ commands) =
    (record {
      line = record { thread = thread; command = record (without_reply command) { leave_to = at + 1 } };
      number = 0;
    }) ∷ lines_in_turn thread (at + 1) commands

-- those of this many threads, one thread after the other
abbrev pub threads_in_turn : (commands : ℕ → List ThreadCommand) → (thread count : ℕ) → List NumberedLine
threads_in_turn commands thread zero = []
threads_in_turn commands thread (suc count) =
    lines_in_turn thread 0 (commands thread) ++ threads_in_turn commands (thread + 1) count

-- what a file without repeats, replies and conditions can say
pub record IsSpelledLitmus (content : LitmusContent) : Type 0 where
  pub roster : IsRoster content.rows
  pub few_threads : length content.names ≤ MOST_THREADS
  pub names : All (λ name. IfSome name (λ word. IsTrue (is_thread_name word))) content.names
  pub voices : length content.voices ≡ length content.names
  pub few_commands : length content.lines ≤ MOST_COMMANDS
  pub commands : All (λ numbered. IsSpelledThreadCommand content.rows numbered.line.command) content.lines
  pub in_turn : threads_in_turn (thread_commands content) 0 (length content.names) ≡ content.lines
  pub no_requirement : content.requirements ≡ []
  pub no_condition : content.conditions ≡ []
  pub size : length (litmus_spelling content) ≤ most_bytes
