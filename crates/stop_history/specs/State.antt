-- The state of a row after a history: by the row's own events, and its birth (ptrace(2), "Stopped states";
-- waitid(2)).
use Rattle.std.specs.Prelude.{◌==◌, ◌&&◌, ◌∷◌, [], ℕ, Bool, true, false, nat_lt, List, length, Option, Some, None}
use Rattle.std.specs.Prelude.{if◌then◌else◌}
use Rattle.std.specs.List.{list_any}
use Rattle.trace_record.specs.Stop.{stop_status, child_of}
use Rattle.trace_record.specs.Death.{death_status}
use Rattle.stop_history.specs.declared.roster.Row.{Row}
use Rattle.stop_history.specs.declared.state.State.{State}
use Rattle.stop_history.specs.declared.state.State.TheVariants as state
use Rattle.stop_history.specs.Event as event
use Rattle.stop_history.specs.Event.{Event, History, events_of}
use Rattle.stop_history.specs.Roster.{row_at, parent_of}

-- whether a stop creates the tracee of a tid
abbrev pub creates : ℕ → Option ℕ → Bool
creates tid None = false
creates tid (Some child) = child == tid

-- whether an event is a publish of the parent whose fork or clone names the tid
abbrev pub is_birth : (parent tid : ℕ) → Event → Bool
is_birth parent tid (event.Publish row number stop) = row == parent && creates tid (child_of stop)
is_birth parent tid other = false

-- a root is born from the start, another row when its parent has created it
abbrev pub was_created : Option ℕ → ℕ → History → Bool
was_created None tid h = true
was_created (Some parent) tid h = list_any (is_birth parent tid) h

abbrev pub is_born : List Row → History → ℕ → Bool
is_born rows h row = was_created (parent_of rows row) (row_at rows row).tid h

-- of one row's events: the number of its last stop, 0 before any
abbrev pub number_in : List Event → ℕ
number_in [] = 0
number_in (event.Publish row number stop ∷ es) = number
number_in (e ∷ es) = number_in es

-- what a claim leaves, by the event before it: a stop is claimed, a death is reaped
abbrev pub claimed_state : (number tracer : ℕ) → List Event → State
claimed_state number tracer (event.Exit row death ∷ es) = state.Reaped
claimed_state number tracer es = state.Claimed number tracer

-- of one row's events: its state, by the last of them
abbrev pub state_in : Bool → List Event → State
state_in born [] = if born then state.Running else state.Unborn
state_in born (event.Publish row number stop ∷ es) = state.Stopped number (stop_status stop)
state_in born (event.Claim row number tracer ∷ es) = claimed_state (number_in es) tracer es
state_in born (event.Resume row number how tracer ∷ es) = state.Running
state_in born (event.Exit row death ∷ es) = state.Dead (number_in es) (death_status death)

-- the number of a row's last stop after a history
abbrev pub last_number : History → ℕ → ℕ
last_number h row = number_in (events_of row h)

abbrev pub state_after : List Row → History → ℕ → State
state_after rows h row =
    if nat_lt row (length rows) then state_in (is_born rows h row) (events_of row h) else state.Absent

-- a row that may still act
abbrev pub is_alive : State → Bool
is_alive state.Running = true
is_alive (state.Stopped number status) = true
is_alive (state.Claimed number tracer) = true
is_alive other = false

-- a row that has ended
abbrev pub is_ended : State → Bool
is_ended (state.Dead number status) = true
is_ended state.Reaped = true
is_ended other = false

-- a row that has a stop or a death to report (waitid(2))
abbrev pub is_waitable : State → Bool
is_waitable (state.Stopped number status) = true
is_waitable (state.Dead number status) = true
is_waitable other = false

-- a row with a status for a wait: a stop, and a death where deaths are asked for (waitid(2), WEXITED)
abbrev pub is_waitable_for : (deaths : Bool) → State → Bool
is_waitable_for deaths (state.Stopped number status) = true
is_waitable_for deaths (state.Dead number status) = deaths
is_waitable_for deaths other = false

-- a row that may have a status later: it runs, or a tracer has claimed its stop
abbrev pub is_pending : State → Bool
is_pending state.Running = true
is_pending (state.Claimed number tracer) = true
is_pending other = false
