-- The text of a thread's command: its words with one space between them, without the reply that it needs.
use Rattle.std.specs.Prelude.{◌++◌, ◌∷◌, [], ℕ, Bool, true, false, List, codes, decimal}
use Rattle.std.specs.List.{join_with_byte}
use Rattle.stop_program.specs.declared.board_call.BoardCall.{BoardCall}
use Rattle.stop_program.specs.declared.board_call.BoardCall.TheVariants as call
use Rattle.stop_program.specs.declared.command.ThreadCommand.{ThreadCommand}
use Rattle.stop_program.specs.declared.command.Which.{Which}
use Rattle.stop_program.specs.declared.command.Which.TheVariants as which
use Rattle.stop_history.specs.declared.roster.Row.{Row}
use Rattle.stop_history.specs.Roster.{row_at}
use Rattle.replay_files.specs.declared.command.Command.TheVariants as command
use Rattle.replay_files.specs.Spelling.{words_about}

-- a row is named by its thread id, a group by a word and its number
abbrev pub tracee_word : List Row → Which → List ℕ
tracee_word rows (which.Row row) = decimal (row_at rows row).tid
tracee_word rows which.Any = codes "any"
tracee_word rows (which.Group pgid) = codes "group " ++ decimal pgid
tracee_word rows which.Last = codes "it"

-- the words of a call are those of a replay file, which has no look, at once or not, and no claim that waits
abbrev pub board_call_words : (tracee : List ℕ) → (waits : Bool) → BoardCall → List (List ℕ)
board_call_words tracee waits (call.Publish stop) = words_about tracee (command.Publish stop)
board_call_words tracee waits call.State = words_about tracee command.State
board_call_words tracee true (call.Look tracer) = codes "look" ∷ tracee ∷ decimal tracer ∷ []
board_call_words tracee false (call.Look tracer) = codes "peek" ∷ tracee ∷ decimal tracer ∷ []
board_call_words tracee true (call.Claim tracer) = codes "wait" ∷ tracee ∷ decimal tracer ∷ []
board_call_words tracee false (call.Claim tracer) = words_about tracee (command.Claim tracer)
board_call_words tracee waits (call.Resume tracer how) = words_about tracee (command.Resume tracer how)
board_call_words tracee waits (call.Exit death) = words_about tracee (command.Exit death)
board_call_words tracee waits call.Kill = codes "kill" ∷ tracee ∷ []
board_call_words tracee waits (call.ExitGroup code) = codes "exit_group" ∷ tracee ∷ decimal code ∷ []

abbrev pub command_text : List Row → ThreadCommand → List ℕ
command_text rows command =
    join_with_byte 32 (board_call_words (tracee_word rows command.which) command.waits command.call)
