-- The text of what a thread's command was answered, or that it waits. The words are those of a replay.
use Rattle.std.specs.Prelude.{◌++◌, ◌∷◌, [], ℕ, List, Option, Some, None, Ok, codes, decimal}
use Rattle.stop_program.specs.declared.answer.Answer.{Answer}
use Rattle.stop_program.specs.declared.answer.Answer.TheVariants as answer
use Rattle.stop_program.specs.declared.board_call.BoardCall.{BoardCall}
use Rattle.stop_program.specs.declared.board_call.BoardCall.TheVariants as call
use Rattle.stop_program.specs.declared.command.ThreadCommand.{ThreadCommand}
use Rattle.stop_program.specs.declared.command.Which.{Which}
use Rattle.stop_program.specs.declared.command.Which.TheVariants as which
use Rattle.stop_program.specs.declared.turn.Turn.{Turn}
use Rattle.stop_history.specs.declared.refused.Refused.{Refused}
use Rattle.stop_history.specs.declared.roster.Row.{Row}
use Rattle.stop_history.specs.declared.state.State.{State}
use Rattle.stop_history.specs.Roster.{row_at}
use Rattle.replay_files.specs.Replies.{got_text, published_text, refusal_name, refusal_text, state_text}
use Rattle.outcome_text.specs.Waiting.{state_at, waiting_refusal}

-- ---- a turn's answer

-- a command about any row, or any of a group, says first which one it got: that row's thread id
abbrev pub taken_row : List Row → Which → (row : ℕ) → List ℕ
taken_row rows which.Any row = decimal (row_at rows row).tid ++ 32 ∷ []
taken_row rows (which.Group pgid) row = decimal (row_at rows row).tid ++ 32 ∷ []
taken_row rows other row = []

-- only a resume, an exit, a kill and the end of a group are answered that they are done
abbrev pub done_word : BoardCall → List ℕ
done_word (call.Resume tracer how) = codes "resumed"
done_word (call.Exit death) = codes "exited"
done_word call.Kill = codes "killed"
done_word (call.ExitGroup code) = codes "exited"
done_word other = codes "done"

abbrev pub told_text : List Row → ThreadCommand → (row : ℕ) → Answer → List ℕ
told_text rows command row (answer.Number number) = published_text rows (Ok number)
told_text rows command row (answer.State at) = state_text at
told_text rows command row (answer.Got got) = taken_row rows command.which row ++ got_text rows (Ok got)
told_text rows command row (answer.Saw got) = taken_row rows command.which row ++ got_text rows (Ok got)
told_text rows command row answer.Done = done_word command.call
told_text rows command row answer.Dead = codes "dead"
told_text rows command row answer.Nothing = codes "nothing"
told_text rows command row answer.NoChild = codes "no child"
told_text rows command row (answer.Refused refusal) = refusal_text rows refusal

abbrev pub answer_text : List Row → ThreadCommand → Turn → List ℕ
answer_text rows command turn = told_text rows command turn.row turn.answer

-- ---- a command that is not done

-- the refusal that has to pass
abbrev pub reason_text : List Row → Option Refused → List ℕ
reason_text rows None = []
reason_text rows (Some refusal) = 32 ∷ refusal_name rows refusal

-- a command about any row, any of a group, or the one claimed last, has no one refusal
abbrev pub reason_about : List Row → List State → Which → BoardCall → List ℕ
reason_about rows states (which.Row row) asked =
    reason_text rows (waiting_refusal rows (state_at states) row asked)
reason_about rows states other asked = []

abbrev pub waits_text : List Row → List State → ThreadCommand → List ℕ
waits_text rows states command = codes "waits" ++ reason_about rows states command.which command.call
