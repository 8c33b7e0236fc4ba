-- The text of a replay: one line for each command, the board's sequential answer.
use Rattle.std.specs.Prelude.{◌+◌, ◌++◌, ◌^◌, ◌-◌, ◌∷◌, [], ℕ, false, List, Result, Ok, Err, codes, decimal}
use Rattle.std.specs.Fmt.{digits, format_spec, padded_integral}
use Rattle.stop_history.specs.declared.got.Got.{Got}
use Rattle.stop_history.specs.declared.got.Got.TheVariants as got
use Rattle.stop_history.specs.declared.refused.Refused.{Refused}
use Rattle.stop_history.specs.declared.refused.Refused.TheVariants as refused
use Rattle.stop_history.specs.declared.roster.Row.{Row}
use Rattle.stop_history.specs.declared.state.State.{State}
use Rattle.stop_history.specs.declared.state.State.TheVariants as state
use Rattle.stop_history.specs.Event as event
use Rattle.stop_history.specs.Event.{History}
use Rattle.stop_history.specs.Roster.{row_at}
use Rattle.stop_history.specs.Sequential.{claim_answer, exit_answer, goes_on, publish_answer, resume_answer}
use Rattle.stop_history.specs.State.{last_number, state_after}
use Rattle.replay_files.specs.declared.command.Command.{Command}
use Rattle.replay_files.specs.declared.command.Command.TheVariants as command
use Rattle.replay_files.specs.declared.order.Order.{Order}
use Rattle.replay_files.specs.StateName.{state_word}

-- six hexadecimal digits in lower case, zeros in front
abbrev pub six_hex : ℕ → List ℕ
six_hex status = padded_integral (format_spec 32 0 4 6 (2 ^ 64 - 1)) false [] (digits 16 false status)

-- a number and a status
abbrev pub at_status : (number status : ℕ) → List ℕ
at_status number status = decimal number ++ (codes " 0x" ++ six_hex status)

-- the name of a refusal; a row is named by its thread id
abbrev pub refusal_name : List Row → Refused → List ℕ
refusal_name rows refused.NoRow = codes "NoRow"
refusal_name rows refused.Unborn = codes "Unborn"
refusal_name rows refused.NotRunning = codes "NotRunning"
refusal_name rows refused.NotTaken = codes "NotTaken"
refusal_name rows refused.NotNext = codes "NotNext"
refusal_name rows refused.Full = codes "Full"
refusal_name rows refused.NotWaitable = codes "NotWaitable"
refusal_name rows refused.NotClaimed = codes "NotClaimed"
refusal_name rows refused.NotHolder = codes "NotHolder"
refusal_name rows (refused.GroupAlive row) = codes "GroupAlive " ++ decimal (row_at rows row).tid

abbrev pub refusal_text : List Row → Refused → List ℕ
refusal_text rows refusal = codes "refused " ++ refusal_name rows refusal

abbrev pub published_text : List Row → Result ℕ Refused → List ℕ
published_text rows (Ok number) = codes "published " ++ decimal number
published_text rows (Err refusal) = refusal_text rows refusal

abbrev pub got_text : List Row → Result Got Refused → List ℕ
got_text rows (Ok (got.Stop number status)) = codes "stop " ++ at_status number status
got_text rows (Ok (got.Ended number status)) = codes "ended " ++ at_status number status
got_text rows (Err refusal) = refusal_text rows refusal

-- a call whose only answer is that it is done
abbrev pub done_text : List ℕ → List Row → Result (Unit {0}) Refused → List ℕ
done_text word rows (Ok done) = word
done_text word rows (Err refusal) = refusal_text rows refusal

-- what follows a state's word: its numbers
abbrev pub state_details : State → List ℕ
state_details (state.Stopped number status) = codes " " ++ at_status number status
state_details (state.Claimed number tracer) = codes " " ++ (decimal number ++ (codes " " ++ decimal tracer))
state_details (state.Dead number status) = codes " " ++ at_status number status
state_details other = []

abbrev pub state_text : State → List ℕ
state_text at = state_word at ++ state_details at

-- what a command to a row is answered at a history
abbrev pub reply_text : List Row → History → (row : ℕ) → Command → List ℕ
reply_text rows h row (command.Publish stop) = published_text rows (publish_answer rows h row stop)
reply_text rows h row (command.Claim tracer) = got_text rows (claim_answer rows h row tracer)
reply_text rows h row (command.Resume tracer how) = done_text (codes "resumed") rows (resume_answer rows h row tracer)
reply_text rows h row (command.Exit death) = done_text (codes "exited") rows (exit_answer rows h row)
reply_text rows h row command.State = state_text (state_after rows h row)

-- the history after a command: with its event, unless it was refused
abbrev pub history_after_command : List Row → History → (row : ℕ) → Command → History
history_after_command rows h row (command.Publish stop) =
    goes_on (publish_answer rows h row stop) (event.Publish row (last_number h row + 1) stop) h
history_after_command rows h row (command.Claim tracer) =
    goes_on (claim_answer rows h row tracer) (event.Claim row (last_number h row) tracer) h
history_after_command rows h row (command.Resume tracer how) =
    goes_on (resume_answer rows h row tracer) (event.Resume row (last_number h row) how tracer) h
history_after_command rows h row (command.Exit death) = goes_on (exit_answer rows h row) (event.Exit row death) h
history_after_command rows h row command.State = h

-- the replies to orders from a history on, each on a line
unfoldable pub replies : List Row → History → List Order → List ℕ
replies rows h [] = []
replies rows h (order ∷ orders) =
    reply_text rows h order.row order.command
    ++ 10 ∷ replies rows (history_after_command rows h order.row order.command) orders
