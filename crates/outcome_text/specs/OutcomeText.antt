-- The text of outcomes: what each thread was answered, and the command that it waits at; the last states of the
-- tracees; and one order that leads there.
use Rattle.std.specs.Prelude.{◌≡◌, ◌+◌, ◌++◌, ◌∷◌, [], ℕ, Bool, true, false, List, length, zip, flat_map}
use Rattle.std.specs.Prelude.{Option, Some, None, slice_get, slice_index_or, codes, decimal}
use Rattle.stop_history.specs.declared.roster.Row.{Row}
use Rattle.stop_history.specs.declared.state.State.{State}
use Rattle.stop_program.specs.declared.command.ThreadCommand.{ThreadCommand}
use Rattle.stop_program.specs.declared.voice.Voice.{Voice}
use Rattle.stop_program.specs.declared.turn.Turn.{Turn}
use Rattle.stop_program.specs.Program.{Log, command_after, index_after, own_turns}
use Rattle.stop_program.specs.Progress.{is_quiet}
use Rattle.stop_program.specs.Run.{EndedRun}
use Rattle.outcome_text.specs.AnswerText.{answer_text, waits_text}
use Rattle.litmus_files.specs.CommandText.{command_text}
use Rattle.replay_files.specs.Replies.{state_text}

-- ---- names

-- a thread without a name has its number
abbrev pub thread_word : (number : ℕ) → (name : Option (List ℕ)) → List ℕ
thread_word number None = decimal number
thread_word number (Some name) = name

-- the name of a thread, by its place among all threads
abbrev pub name_at : List (Option (List ℕ)) → (thread : ℕ) → Option (List ℕ)
name_at names thread = slice_index_or names thread None

abbrev pub thread_head : (number : ℕ) → (name : Option (List ℕ)) → List ℕ
thread_head number name = codes "thread " ++ thread_word number name ++ codes "\n"

-- ---- commands

-- a command that was done, and its answer; where there is no command, no line
abbrev pub done_line : List Row → Turn → Option ThreadCommand → List ℕ
done_line rows turn None = []
done_line rows turn (Some command) =
    command_text rows command ++ codes ": " ++ (answer_text rows command turn ++ 10 ∷ [])

-- a command that a thread waits at
abbrev pub waiting_line : List Row → List State → Option ThreadCommand → List ℕ
waiting_line rows states None = []
waiting_line rows states (Some command) =
    command_text rows command ++ codes ": " ++ (waits_text rows states command ++ 10 ∷ [])

-- ---- threads

-- what a thread's turns did, from a place among its commands on, and then the command that it waits at
unfoldable pub thread_lines : List Row → List State → List ThreadCommand → (at : ℕ) → List Turn → List ℕ
thread_lines rows states commands at [] = waiting_line rows states (slice_get commands at)
thread_lines rows states commands at (turn ∷ turns) =
    done_line rows turn (slice_get commands at)
    ++ thread_lines rows states commands (index_after (slice_get commands at) at turn.answer) turns

-- of a quiet thread: that it is done, or the command that it waits at
abbrev pub quiet_line : List Row → List State → Option ThreadCommand → List ℕ
quiet_line rows states None = codes "done\n"
quiet_line rows states (Some command) = waiting_line rows states (Some command)

abbrev pub told_lines : List Row → (quiet : Bool) → List ThreadCommand → EndedRun → (thread : ℕ) → List ℕ
told_lines rows false commands ending thread =
    thread_lines rows ending.states commands 0 (own_turns thread ending.turns)
told_lines rows true commands ending thread =
    quiet_line rows ending.states (command_after commands (own_turns thread ending.turns))

abbrev pub thread_text : List Row → List Voice → (commands : ℕ → List ThreadCommand) → EndedRun → (thread : ℕ)
    → (name : Option (List ℕ)) → List ℕ
thread_text rows voices commands ending thread name =
    thread_head (thread + 1) name ++ told_lines rows (is_quiet voices thread) (commands thread) ending thread

-- the threads of these names, the first of which has this number
unfoldable pub threads_text : List Row → List Voice → (commands : ℕ → List ThreadCommand) → EndedRun → (thread : ℕ)
    → (names : List (Option (List ℕ))) → List ℕ
threads_text rows voices commands ending thread [] = []
threads_text rows voices commands ending thread (name ∷ names) =
    thread_text rows voices commands ending thread name ++ threads_text rows voices commands ending (thread + 1) names

-- ---- tracees

abbrev pub tracee_line : Row × State → List ℕ
tracee_line tracee = decimal tracee.0.tid ++ codes " " ++ (state_text tracee.1 ++ 10 ∷ [])

abbrev pub tracees_text : List Row → List State → List ℕ
tracees_text rows states = codes "tracees\n" ++ flat_map tracee_line (zip rows states)

-- states of the tracees, and a text
pub record StatesText : Type 0 where
  pub states : List State
  pub text : List ℕ

abbrev pub IsTextOfStates : List Row → StatesText → Type 0
IsTextOfStates rows kept = kept.text ≡ tracees_text rows kept.states

-- ---- the order

-- the command that a turn did, after the turns before it
abbrev pub command_of_turn : (commands : ℕ → List ThreadCommand) → (before : Log) → Turn → Option ThreadCommand
command_of_turn commands before turn = command_after (commands turn.thread) (own_turns turn.thread before)

-- what a thread of this name did, with the answer
abbrev pub turn_line : List Row → (name : Option (List ℕ)) → Turn → Option ThreadCommand → List ℕ
turn_line rows name turn None = []
turn_line rows name turn (Some command) =
    thread_word (turn.thread + 1) name ++ codes " " ++ done_line rows turn (Some command)

-- turns after others
unfoldable pub order_lines : List Row → (names : List (Option (List ℕ))) → (commands : ℕ → List ThreadCommand)
    → (before turns : Log) → List ℕ
order_lines rows names commands before [] = []
order_lines rows names commands before (turn ∷ turns) =
    turn_line rows (name_at names turn.thread) turn (command_of_turn commands before turn)
    ++ order_lines rows names commands (before ++ turn ∷ []) turns

abbrev pub order_text : List Row → (names : List (Option (List ℕ))) → (commands : ℕ → List ThreadCommand) → Log
    → List ℕ
order_text rows names commands turns = codes "order\n" ++ order_lines rows names commands [] turns

-- ---- outcomes

abbrev pub outcome_line : (number count : ℕ) → List ℕ
outcome_line number count = codes "outcome " ++ decimal number ++ codes " of " ++ decimal count ++ codes "\n"

-- an empty line ends it
abbrev pub outcome_text : List Row → (names : List (Option (List ℕ))) → List Voice
    → (commands : ℕ → List ThreadCommand) → (number count : ℕ) → EndedRun → List ℕ
outcome_text rows names voices commands number count ending =
    outcome_line number count ++ threads_text rows voices commands ending 0 names ++ tracees_text rows ending.states
    ++ order_text rows names commands ending.turns ++ codes "\n"

-- outcomes, the first of which has this number
unfoldable pub outcome_texts : List Row → (names : List (Option (List ℕ))) → List Voice
    → (commands : ℕ → List ThreadCommand) → (number count : ℕ) → List EndedRun → List ℕ
outcome_texts rows names voices commands number count [] = []
outcome_texts rows names voices commands number count (ending ∷ endings) =
    outcome_text rows names voices commands number count ending
    ++ outcome_texts rows names voices commands (number + 1) count endings

-- ---- what was explored

abbrev pub counts_line : (count places : ℕ) → List ℕ
counts_line count places = codes "outcomes " ++ decimal count ++ codes ", places " ++ decimal places ++ codes "\n"

-- of a file that has replies or conditions
abbrev pub allowed_line : (required : Bool) → List ℕ
allowed_line true = codes "allowed\n"
allowed_line false = []

-- outcomes, numbered from 1 and counted; and that they are allowed, where the file requires anything
abbrev pub chosen_text : List Row → (names : List (Option (List ℕ))) → List Voice
    → (commands : ℕ → List ThreadCommand) → (required : Bool) → (places : ℕ) → (chosen : List EndedRun) → List ℕ
chosen_text rows names voices commands required places chosen =
    outcome_texts rows names voices commands 1 (length chosen) chosen
    ++ (counts_line (length chosen) places ++ allowed_line required)

-- no order has all that the file requires: by the number of a line, if it is known
abbrev pub forbidden_line : (line : Option ℕ) → List ℕ
forbidden_line None = codes "forbidden\n"
forbidden_line (Some line) = codes "forbidden: line " ++ decimal line ++ codes "\n"
