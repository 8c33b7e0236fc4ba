-- What one thread alone would be answered at a history: the refusals of each call, in the order of their tests,
-- else its answer.
use Rattle.std.specs.Prelude.{◌==◌, ◌+◌, ◌∷◌, ℕ, Bool, nat_lt, not, List, Option, Some, None, Result, Ok, Err}
use Rattle.std.specs.Prelude.{if◌then◌else◌}
use Rattle.trace_record.specs.declared.stop.Stop.{Stop}
use Rattle.stop_history.specs.declared.roster.Row.{Row}
use Rattle.stop_history.specs.declared.state.State.{State}
use Rattle.stop_history.specs.declared.state.State.TheVariants as state
use Rattle.stop_history.specs.declared.refused.Refused.{Refused}
use Rattle.stop_history.specs.declared.refused.Refused.TheVariants as refused
use Rattle.stop_history.specs.declared.got.Got.{Got}
use Rattle.stop_history.specs.declared.got.Got.TheVariants as got
use Rattle.stop_history.specs.Event.{Event, History}
use Rattle.stop_history.specs.State.{state_after, last_number}
use Rattle.stop_history.specs.History.{creates_next, births_after, holding_back}
use Rattle.stop_history.specs.declared.limits.TheConstants.{LAST_NUMBER, TRACERS}

-- a row that is to publish or to exit runs
abbrev pub running_by : State → Result (Unit {0}) Refused
running_by state.Absent = Err refused.NoRow
running_by state.Unborn = Err refused.Unborn
running_by state.Running = Ok tt
running_by other = Err refused.NotRunning

abbrev pub and_then : {A : Type 0} → Result (Unit {0}) Refused → Result A Refused → Result A Refused
and_then (Ok done) next = next
and_then (Err refusal) next = Err refusal

-- the number of a running row's next stop: by whether a child that the stop names is the next one, and the last number
abbrev pub next_number : Bool → ℕ → Result ℕ Refused
next_number next number =
    if not next then Err refused.NotNext else if nat_lt number LAST_NUMBER then Ok (number + 1) else Err refused.Full

-- publish: by the row's state, and as above
abbrev pub publish_by : State → Bool → ℕ → Result ℕ Refused
publish_by at next number = and_then (running_by at) (next_number next number)

-- claim: by the row's state
abbrev pub claim_state : State → Result Got Refused
claim_state state.Absent = Err refused.NoRow
claim_state state.Unborn = Err refused.Unborn
claim_state (state.Stopped number status) = Ok (got.Stop number status)
claim_state (state.Dead number status) = Ok (got.Ended number status)
claim_state other = Err refused.NotWaitable

abbrev pub claim_by : ℕ → State → Result Got Refused
claim_by tracer at = if nat_lt tracer TRACERS then claim_state at else Err refused.NoRow

-- resume: by the row's state
abbrev pub resume_state : ℕ → State → Result (Unit {0}) Refused
resume_state tracer state.Absent = Err refused.NoRow
resume_state tracer state.Unborn = Err refused.Unborn
resume_state tracer (state.Claimed number holder) = if holder == tracer then Ok tt else Err refused.NotHolder
resume_state tracer other = Err refused.NotClaimed

abbrev pub resume_by : ℕ → State → Result (Unit {0}) Refused
resume_by tracer at = if nat_lt tracer TRACERS then resume_state tracer at else Err refused.NoRow

-- exit: by the row that holds a leader back, and the row's state
abbrev pub unless_held : Option ℕ → Result (Unit {0}) Refused
unless_held None = Ok tt
unless_held (Some other) = Err (refused.GroupAlive other)

abbrev pub exit_by : Option ℕ → State → Result (Unit {0}) Refused
exit_by holding at = and_then (running_by at) (unless_held holding)

abbrev pub publish_answer : List Row → History → ℕ → Stop → Result ℕ Refused
publish_answer rows h row stop =
    publish_by (state_after rows h row) (creates_next rows row (births_after h row) stop) (last_number h row)

abbrev pub claim_answer : List Row → History → (row tracer : ℕ) → Result Got Refused
claim_answer rows h row tracer = claim_by tracer (state_after rows h row)

abbrev pub resume_answer : List Row → History → (row tracer : ℕ) → Result (Unit {0}) Refused
resume_answer rows h row tracer = resume_by tracer (state_after rows h row)

abbrev pub exit_answer : List Row → History → ℕ → Result (Unit {0}) Refused
exit_answer rows h row = exit_by (holding_back rows (state_after rows h) row) (state_after rows h row)

-- a call that is answered adds its event, a refused one none
abbrev pub goes_on : {A : Type 0} → Result A Refused → Event → History → History
goes_on (Ok answer) e h = e ∷ h
goes_on (Err refusal) e h = h
