-- The texts of an outcome's turns, as they are kept for the next outcome: the text of each thread without its last
-- line, and the order.
use Rattle.std.specs.Prelude.{◌≡◌, ◌+◌, ◌-◌, ◌++◌, ◌∷◌, ◌<◌, ◌≤◌, [], ℕ, Bool, List, map, length, if◌then◌else◌}
use Rattle.std.specs.Prelude.{Option, Some, get_or, slice_get}
use Rattle.stop_history.specs.declared.roster.Row.{Row}
use Rattle.stop_history.specs.declared.state.State.{State}
use Rattle.stop_program.specs.declared.command.ThreadCommand.{ThreadCommand}
use Rattle.stop_program.specs.declared.voice.Voice.{Voice}
use Rattle.stop_program.specs.declared.turn.Turn.{Turn}
use Rattle.stop_program.specs.Program.{Log, index_after, index_from, own_turns}
use Rattle.stop_program.specs.Progress.{is_quiet}
use Rattle.stop_program.specs.Threads.{commands_in}
use Rattle.outcome_text.specs.declared.text.ToldProgram.{ToldProgram}
use Rattle.outcome_text.specs.declared.turn_texts.WrittenTurn.{WrittenTurn}
use Rattle.outcome_text.specs.KeptLines.{AreLinesKept, LineText}
use Rattle.litmus_files.specs.LitmusDraft.{names_kept}
use Rattle.outcome_text.specs.OutcomeText.{done_line, name_at, order_text, quiet_line, thread_head}
use Rattle.outcome_text.specs.OutcomeText.{waiting_line}

-- what the texts are made from: the rows, and the names, voices and commands of the threads
pub record TextSource : Type 0 where
  pub rows : List Row
  pub names : List (Option (List ℕ))
  pub voices : List Voice
  pub commands : ℕ → List ThreadCommand

abbrev pub text_source : {Z : Type 0} → ToldProgram Z → TextSource
text_source program = record {
  rows = program.rows.now;
  names = names_kept program.names.now;
  voices = program.voices.now;
  commands = commands_in program.commands.now;
}

-- of a thread: its text, and the index of its next command
pub record ThreadText : Type 0 where
  pub text : List ℕ
  pub next : ℕ

-- the texts of all threads, and the order, with their turns; and lines of turns that were written before
pub record TextsOfTurns : Type 0 where
  pub turns : List WrittenTurn
  pub threads : List ThreadText
  pub order : List ℕ
  pub lines : List LineText

abbrev pub turns_written : List WrittenTurn → Log
turns_written turns = map (λ written. written.turn) turns

-- ---- threads

-- the lines of a thread's turns, the first of which did the command at this index
unfoldable pub own_lines : List Row → List ThreadCommand → (at : ℕ) → List Turn → List ℕ
own_lines rows commands at [] = []
own_lines rows commands at (turn ∷ turns) =
    done_line rows turn (slice_get commands at)
    ++ own_lines rows commands (index_after (slice_get commands at) at turn.answer) turns

-- a thread after these turns of its own: its head, and the lines of the turns unless it is quiet; and its next command
abbrev pub thread_so_far : TextSource → (thread : ℕ) → (own : List Turn) → ThreadText
thread_so_far t thread own = record {
  text = thread_head (thread + 1) (name_at t.names thread)
      ++ (if is_quiet t.voices thread then [] else own_lines t.rows (t.commands thread) 0 own);
  next = index_from (t.commands thread) 0 own;
}

-- each thread is as before any turn
abbrev pub AreBeforeTurns : TextSource → List ThreadText → Type 0
AreBeforeTurns t threads =
    (thread : ℕ) → thread < length threads → slice_get threads thread ≡ Some (thread_so_far t thread [])

-- a thread after one turn more, whose line this is
abbrev pub thread_after_turn : (quiet : Bool) → List ThreadCommand → Turn → (line : List ℕ) → ThreadText → ThreadText
thread_after_turn quiet commands turn line before = record {
  text = before.text ++ (if quiet then [] else line);
  next = index_after (slice_get commands before.next) before.next turn.answer;
}

-- the last line of a thread: the command that it waits at; if there is none, `done` of a quiet thread, else no line
abbrev pub closing_line : List Row → List State → (quiet : Bool) → Option ThreadCommand → List ℕ
closing_line rows states quiet next = if quiet then quiet_line rows states next else waiting_line rows states next

-- ---- turns

-- what is kept of a turn: the length of the order before it and, if its thread is one of this many, the length of the
-- thread's text and the index of its next command before it
pub record IsWrittenTurn (t : TextSource) (count : ℕ) (before : Log) (written : WrittenTurn) : Type 0 where
  pub order : written.order_len ≡ length (order_text t.rows t.names t.commands before)
  pub thread : written.turn.thread < count
      → (written.text_len ≡ length (thread_so_far t written.turn.thread (own_turns written.turn.thread before)).text)
      × (written.next ≡ (thread_so_far t written.turn.thread (own_turns written.turn.thread before)).next)

-- the same of each of these turns, which come after others
unfoldable pub AreWrittenTurns : TextSource → (count : ℕ) → (before : Log) → List WrittenTurn → Type 0
AreWrittenTurns t count before [] = Unit {0}
AreWrittenTurns t count before (written ∷ rest) =
    IsWrittenTurn t count before written × AreWrittenTurns t count (before ++ written.turn ∷ []) rest

-- ---- all texts

-- the texts are those of the turns that are written
pub record AreTextsOf (t : TextSource) (texts : TextsOfTurns) : Type 0 where
  pub turns : AreWrittenTurns t (length texts.threads) [] texts.turns
  pub threads : (thread : ℕ) → thread < length texts.threads
      → slice_get texts.threads thread ≡ Some (thread_so_far t thread (own_turns thread (turns_written texts.turns)))
  pub order : texts.order ≡ order_text t.rows t.names t.commands (turns_written texts.turns)
  -- each thread that has a name is among them, and no other thread has a command
  pub names : length t.names ≤ length texts.threads
  pub others : (thread : ℕ) → length texts.threads ≤ thread → t.commands thread ≡ []
  pub lines : AreLinesKept t.rows t.names t.commands texts.lines

-- the same, of some rows, names, voices and commands
abbrev pub AreTextsOfAny : TextsOfTurns → Type 0
AreTextsOfAny texts = (t : TextSource) × AreTextsOf t texts

-- the byte before this index is a line feed; at 0 it is the first byte
abbrev pub EndsLine : (text : List ℕ) → (end : ℕ) → Type 0
EndsLine text end = get_or text (end - 1) 0 ≡ 10
