-- The turns of a run: a tracee's, once its machine has run on to a stop or a death and before that is an event, a worker's,
-- and a round of them.
use Rattle.std.specs.Prelude.{◌≡◌, ◌≢◌, ◌<◌, ℕ, Bool, true, false, List, Some, length, slice_get, slice_set}
use Rattle.stop_history.specs.declared.actor.Actor.TheVariants.{Tracee, Tracer}
use Rattle.stop_history.specs.declared.limits.TheConstants.{TRACERS}
use Rattle.stop_history.specs.declared.phase.Phase.TheVariants as phase
use Rattle.stop_history.specs.declared.state.State.TheVariants as state
use Rattle.stop_history.specs.Event.{events_of}
use Rattle.stop_history.specs.Roster.{row_at}
use Rattle.stop_history.specs.State.{is_waitable, last_number, state_after}
use Rattle.stop_history.specs.Word.{phase_in}
use Rattle.stop_table.specs.Entry.{Entry, content_after, history_of}
use Rattle.trace_record.specs.Content.{Content, empty_content}
use Rattle.trace_record.specs.Death.{IsDeath}
use Rattle.trace_record.specs.declared.death.Death.{Death}
use Rattle.trace_script.specs.CaseFile.{CaseContent}
use Rattle.trace_script.specs.Machine.{IsAnswer}
use Rattle.trace_script.specs.StopTrace.{Position, StopIs, context_of, first_restart, next_element, next_position}
use Rattle.trace_script.specs.declared.machine.next.Next.{Next}
use Rattle.tracer_workers.specs.Config.{plan_of}
use Rattle.tracer_workers.specs.Driven.{IsDeathOf, element_after, position_at, restart_after}
use Rattle.tracer_workers.specs.Plan.{Plan, opening_of}
use Rattle.tracer_workers.specs.Scheduled.{HasMade, HasNothingToReport, IsHeldOrIdle, IsReady, IsRunOver, KeptRow}
use Rattle.tracer_workers.specs.Scheduled.{Moved, MovedBy, RunState, Stands, is_claimed, run_left}
use Rattle.tracer_workers.specs.declared.config.Config.{Config}

-- a row before its first stop
abbrev pub new_row : Config → CaseContent → ℕ → KeptRow
new_row config content row = record {
  tid = (row_at content.rows row).tid;
  how = first_restart;
  number = 0;
  content = empty_content (row_at content.rows row).tid;
  position = opening_of (plan_of config content) row;
}

-- a row that its machine has run on
abbrev pub with_next : KeptRow → Content → Position → KeptRow
with_next k content at = record k { content = content; position = at }

abbrev pub with_number : KeptRow → ℕ → KeptRow
with_number k number = record k { number = number }

-- the same run with another row
abbrev pub with_row : RunState → ℕ → KeptRow → RunState
with_row run row k = record run { rows = slice_set run.rows row k }

-- where a tracee is after its next stop
abbrev pub onward : Plan → List Entry → ℕ → Position
onward plan h row =
    next_position (position_at plan h row) (restart_after h row) (context_of (content_after plan.rows h row))

-- a running row, whose tracee is to run on
pub record IsToRun (content : CaseContent) (run : RunState) (h : List Entry) (row : ℕ) : Type 0 where
  pub stands : Stands content run h
  pub within : row < length content.rows
  pub runs : state_after content.rows (history_of h) row ≡ state.Running

-- a row's machine has run on, and what it has told of is kept
abbrev pub HasRunOn : RunState → RunState → ℕ → Next → Type 0
HasRunOn run new row told =
    (k : KeptRow) → slice_get run.rows row ≡ Some k → (content : Content) × (at : Position)
    × IsAnswer (next_element k.position k.how (context_of k.content)) told k.content content
    × (at ≡ next_position k.position k.how (context_of k.content))
    × (new ≡ with_row run row (with_next k content at))

-- a running row has come to its next stop
pub record HasStopped (content : CaseContent) (run : RunState) (h : List Entry) (row : ℕ) (c : Content) : Type 0 where
  pub before : RunState
  pub stands : Stands content before h
  pub within : row < length content.rows
  pub runs : state_after content.rows (history_of h) row ≡ state.Running
  pub due : element_after (plan_of before.config content) h row ≡ StopIs c
  pub k : KeptRow
  pub there : slice_get before.rows row ≡ Some k
  pub is : run ≡ with_row before row (with_next k c (onward (plan_of before.config content) h row))

-- or to its death
pub record HasDied (content : CaseContent) (run : RunState) (h : List Entry) (row : ℕ) (death : Death) : Type 0 where
  pub before : RunState
  pub stands : Stands content before h
  pub within : row < length content.rows
  pub runs : state_after content.rows (history_of h) row ≡ state.Running
  pub due : IsDeathOf (element_after (plan_of before.config content) h row) death
  pub range : IsDeath death
  pub k : KeptRow
  pub there : slice_get before.rows row ≡ Some k
  pub new_content : Content
  pub at : Position
  pub ready : IsReady (plan_of before.config content) h row (with_next k new_content at)
  pub is : run ≡ with_row before row (with_next k new_content at)

-- a turn of a tracee: an event came of it, or the row does not run or is held back
abbrev pub HasTurned : CaseContent → RunState → RunState → List Entry → ℕ → Bool → Type 0
HasTurned content run new h row true = MovedBy (Tracee row) content run new h
HasTurned content run new h row false =
    Stands content new h × (run_left new ≡ run_left run) × IsHeldOrIdle content h row

-- ---- a worker

-- a row whose stop a tracer has claimed, and no other row's is claimed
pub record HasHeld (content : CaseContent) (run : RunState) (h : List Entry) (row tracer : ℕ) : Type 0 where
  pub made : HasMade content run h
  pub within : row < length content.rows
  pub low : tracer < TRACERS
  pub held : state_after content.rows (history_of h) row ≡ state.Claimed (last_number (history_of h) row) tracer
  pub phase : phase_in (events_of row (history_of h)) ≡ phase.Claimed tracer
  pub others : (other : ℕ) → other ≢ row → is_claimed (phase_in (events_of other (history_of h))) ≡ false

-- a tracer has claimed what waits in a row, and restarted the row where that is a stop, or nothing waits
abbrev pub HasServedRow : CaseContent → RunState → RunState → List Entry → (row tracer : ℕ) → Bool → Type 0
HasServedRow content run new h row tracer true = MovedBy (Tracer tracer) content run new h
HasServedRow content run new h row tracer false =
    Stands content new h × (run_left new ≡ run_left run)
    × (is_waitable (state_after content.rows (history_of h) row) ≡ false)

-- a worker's turn: the same of all rows
abbrev pub HasServedAll : CaseContent → RunState → RunState → List Entry → (tracer : ℕ) → Bool → Type 0
HasServedAll content run new h tracer true = MovedBy (Tracer tracer) content run new h
HasServedAll content run new h tracer false =
    Stands content new h × (run_left new ≡ run_left run) × HasNothingToReport content h

-- ---- a round

-- no event could come of a row: it does not run or is held back, and nothing waits in it
abbrev pub CanMakeNoEvent : CaseContent → List Entry → ℕ → Type 0
CanMakeNoEvent content h row =
    IsHeldOrIdle content h row × (is_waitable (state_after content.rows (history_of h) row) ≡ false)

-- a row has run as far as it goes, by turns of its tracee and of a worker
abbrev pub HasRunOut : CaseContent → RunState → RunState → List Entry → ℕ → Bool → Type 0
HasRunOut content run new h row true = Moved content run new h
HasRunOut content run new h row false =
    Stands content new h × (run_left new ≡ run_left run) × CanMakeNoEvent content h row

-- the same of the first rows
abbrev pub HaveRunOut : CaseContent → RunState → RunState → List Entry → (rows : ℕ) → Bool → Type 0
HaveRunOut content run new h rows true = Moved content run new h
HaveRunOut content run new h rows false =
    Stands content new h × (run_left new ≡ run_left run) × ((row : ℕ) → row < rows → CanMakeNoEvent content h row)

-- the same of all rows: where no event came of them, the run is over
abbrev pub HasGone : CaseContent → RunState → RunState → List Entry → Bool → Type 0
HasGone content run new h true = Moved content run new h
HasGone content run new h false = Stands content new h × IsRunOver content h
