-- The state of a row in four numbers: what a phase has not is 0.
use Rattle.std.specs.Prelude.{ℕ}
use Rattle.stop_history.specs.declared.state.State.{State}
use Rattle.stop_history.specs.declared.state.State.TheVariants as state
use Rattle.stop_table.specs.declared.shown.Shown.{Shown}
use Rattle.stop_table.specs.declared.shown.Shown.TheVariants as shown
use Rattle.c_interface.specs.declared.state.CState.{CState}
use Rattle.c_interface.specs.declared.state.TheConstants.CState.{ABSENT, UNBORN, RUNNING, STOPPED, CLAIMED, DEAD, REAPED}

abbrev pub in_phase : (phase number tracer status : ℕ) → CState
in_phase phase number tracer status =
    record { phase = phase; number = number; tracer = tracer; status = status }

abbrev pub state_in_numbers : State → CState
state_in_numbers state.Absent = in_phase ABSENT 0 0 0
state_in_numbers state.Unborn = in_phase UNBORN 0 0 0
state_in_numbers state.Running = in_phase RUNNING 0 0 0
state_in_numbers (state.Stopped number status) = in_phase STOPPED number 0 status
state_in_numbers (state.Claimed number tracer) = in_phase CLAIMED number tracer 0
state_in_numbers (state.Dead number status) = in_phase DEAD number 0 status
state_in_numbers state.Reaped = in_phase REAPED 0 0 0

-- what a look showed; it does not tell who has claimed a stop
abbrev pub shown_in_numbers : Shown → CState
shown_in_numbers shown.Unborn = in_phase UNBORN 0 0 0
shown_in_numbers shown.Running = in_phase RUNNING 0 0 0
shown_in_numbers (shown.Stopped number status) = in_phase STOPPED number 0 status
shown_in_numbers (shown.Claimed number) = in_phase CLAIMED number 0 0
shown_in_numbers (shown.Dead number status) = in_phase DEAD number 0 status
shown_in_numbers shown.Reaped = in_phase REAPED 0 0 0
