-- The order of an outcome as a replay file: its turns one after another, each as a command to the row that it was
-- about; the end of a thread group as the commands, each to one row, that it is made of.
use Rattle.std.specs.Prelude.{◌++◌, ◌∷◌, [], ℕ, nat_lt, List, length, map, Option, Some, None, option_map}
use Rattle.std.specs.Prelude.{if◌then◌else◌}
use Rattle.std.specs.List.{All}
use Rattle.stop_history.specs.declared.roster.Row.{Row}
use Rattle.stop_history.specs.declared.state.State.{State}
use Rattle.stop_history.specs.State.{state_after}
use Rattle.stop_program.specs.declared.board_call.BoardCall.{BoardCall}
use Rattle.stop_program.specs.declared.board_call.BoardCall.TheVariants as call
use Rattle.stop_program.specs.declared.command.ThreadCommand.{ThreadCommand}
use Rattle.stop_program.specs.declared.turn.Turn.{Turn}
use Rattle.stop_program.specs.declared.group_death.RowCall.{RowCall}
use Rattle.stop_program.specs.BoardCall.{IsBoardCall, single_calls}
use Rattle.stop_program.specs.Meaning.{history_from}
use Rattle.stop_program.specs.Program.{Log}
use Rattle.stop_program.specs.Run.{EndedRun}
use Rattle.replay_files.specs.declared.command.Command.{Command}
use Rattle.replay_files.specs.declared.command.Command.TheVariants as command
use Rattle.replay_files.specs.declared.order.Order.{Order}
use Rattle.outcome_text.specs.Chosen.{ending_numbered}
use Rattle.outcome_text.specs.OutcomeText.{command_of_turn}
use Rattle.replay_files.specs.Spelling.{spelling}

abbrev pub HaveCalls : (commands : ℕ → List ThreadCommand) → Type 0
HaveCalls commands = (thread : ℕ) → All (λ command. IsBoardCall command.call) (commands thread)

-- a look leaves the stop where it is, as a question for the state does
abbrev pub replayed_call : BoardCall → Command
replayed_call (call.Publish stop) = command.Publish stop
replayed_call (call.Claim tracer) = command.Claim tracer
replayed_call (call.Resume tracer how) = command.Resume tracer how
replayed_call (call.Exit death) = command.Exit death
replayed_call other = command.State

abbrev pub order_of_call : RowCall → Order
order_of_call one = record { row = one.row; command = replayed_call one.call }

-- of a call about a row, where the rows have these states: one for each call of a single row that it is made of. About
-- no row there is none.
abbrev pub orders_of_call : List Row → (states : ℕ → State) → (row : ℕ) → BoardCall → List Order
orders_of_call rows states row asked =
    if nat_lt row (length rows) then map order_of_call (single_calls rows states row asked) else []

abbrev pub orders_of_turn : List Row → (states : ℕ → State) → Turn → Option ThreadCommand → List Order
orders_of_turn rows states turn None = []
orders_of_turn rows states turn (Some command) = orders_of_call rows states turn.row command.call

-- the states to which turns come
abbrev pub states_by : List Row → (commands : ℕ → List ThreadCommand) → Log → ℕ → State
states_by rows commands turns = state_after rows (history_from rows commands [] [] turns)

-- of turns after others
unfoldable pub orders_after : List Row → (commands : ℕ → List ThreadCommand) → (before turns : Log) → List Order
orders_after rows commands before [] = []
orders_after rows commands before (turn ∷ turns) =
    orders_of_turn rows (states_by rows commands before) turn (command_of_turn commands before turn)
    ++ orders_after rows commands (before ++ turn ∷ []) turns

abbrev pub orders_of : List Row → (commands : ℕ → List ThreadCommand) → Log → List Order
orders_of rows commands turns = orders_after rows commands [] turns

abbrev pub ending_replay : List Row → (commands : ℕ → List ThreadCommand) → EndedRun → List ℕ
ending_replay rows commands ending =
    spelling (record { rows = rows; orders = orders_of rows commands ending.turns })

-- the outcome of this number, among those that are printed
abbrev pub outcome_replay : List Row → (commands : ℕ → List ThreadCommand) → (number : ℕ) → (chosen : List EndedRun)
    → Option (List ℕ)
outcome_replay rows commands number chosen =
    option_map (ending_replay rows commands) (ending_numbered number chosen)
