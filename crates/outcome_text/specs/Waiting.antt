-- What a command waits for: the refusal that its call would get now, by the states of all rows (ptrace(2); waitid(2)).
-- The refusals that states do not decide, NotNext and Full, are answers, and no command waits for them to pass.
use Rattle.std.specs.Prelude.{ℕ, List, Option, None, slice_index_or}
use Rattle.std.specs.Result.{result_err}
use Rattle.stop_program.specs.declared.board_call.BoardCall.{BoardCall}
use Rattle.stop_program.specs.declared.board_call.BoardCall.TheVariants as call
use Rattle.stop_program.specs.BoardCall.{kill_by}
use Rattle.stop_program.specs.GroupDeath.{is_group_alive}
use Rattle.stop_history.specs.declared.refused.Refused.{Refused}
use Rattle.stop_history.specs.declared.roster.Row.{Row}
use Rattle.stop_history.specs.declared.state.State.{State}
use Rattle.stop_history.specs.declared.state.State.TheVariants as state
use Rattle.stop_history.specs.History.{holding_back}
use Rattle.stop_history.specs.Sequential.{claim_by, exit_by, resume_by, running_by}

-- of the states of all rows, in the order of the roster, that of one row
abbrev pub state_at : List State → ℕ → State
state_at states row = slice_index_or states row state.Absent

-- by the rows, and the state of each of them
abbrev pub waiting_refusal : List Row → (ℕ → State) → (row : ℕ) → BoardCall → Option Refused
waiting_refusal rows states row (call.Publish stop) = result_err (running_by (states row))
waiting_refusal rows states row call.State = None
waiting_refusal rows states row (call.Look tracer) = result_err (claim_by tracer (states row))
waiting_refusal rows states row (call.Claim tracer) = result_err (claim_by tracer (states row))
waiting_refusal rows states row (call.Resume tracer how) = result_err (resume_by tracer (states row))
waiting_refusal rows states row (call.Exit death) =
    result_err (exit_by (holding_back rows states row) (states row))
waiting_refusal rows states row call.Kill = result_err (kill_by (states row) (is_group_alive rows states row))
waiting_refusal rows states row (call.ExitGroup code) = result_err (running_by (states row))
