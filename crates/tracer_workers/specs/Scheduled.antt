-- A run of a case on a schedule: what is kept of it, and the history that it has made (strace(1), `-f`).
use Rattle.std.specs.Prelude.{◌≡◌, ◌≢◌, ◌⊎◌, ◌<◌, ◌+◌, ◌-◌, ◌*◌, ◌++◌, ℕ, zero, suc, Bool, true, false, List, Option}
use Rattle.std.specs.Prelude.{All, None, Some, length, slice_get}
use Rattle.record_printer.specs.Represents.{Folded, Represents}
use Rattle.stop_board.specs.World.{Contents, Moment, StandsAt}
use Rattle.stop_history.specs.Actor.{actor_of}
use Rattle.stop_history.specs.declared.actor.Actor.{Actor}
use Rattle.stop_history.specs.declared.phase.Phase.{Phase}
use Rattle.stop_history.specs.declared.phase.Phase.TheVariants as phase
use Rattle.stop_history.specs.declared.state.State.TheVariants as state
use Rattle.stop_history.specs.declared.limits.TheConstants.{TRACERS}
use Rattle.stop_history.specs.Event.{History, events_of}
use Rattle.stop_history.specs.History.{holding_back}
use Rattle.stop_history.specs.Roster.{row_at}
use Rattle.stop_history.specs.State.{is_waitable, last_number, state_after}
use Rattle.stop_history.specs.Word.{Word, phase_in, word_at}
use Rattle.stop_table.specs.Entry.{AreLegal, Entry, content_after, history_of}
use Rattle.trace_record.specs.Content.{Content}
use Rattle.trace_record.specs.declared.death.Death.{Death}
use Rattle.trace_record.specs.declared.resume.Resume.{Resume as Restart}
use Rattle.trace_script.specs.CaseFacts.{IsCase}
use Rattle.trace_script.specs.CaseFile.{CaseContent}
use Rattle.trace_script.specs.StopTrace.{Context, DeathIs, Position, first_restart, next_element}
use Rattle.trace_script.specs.declared.limits.TheConstants.{MOST_STEPS}
use Rattle.tracer_workers.specs.Config.{plan_of, show_of}
use Rattle.tracer_workers.specs.Driven.{AreDriven, element_after, position_at}
use Rattle.tracer_workers.specs.HistoryPieces.{pieces_of}
use Rattle.tracer_workers.specs.Plan.{Plan}
use Rattle.tracer_workers.specs.declared.config.Config.{Config}

-- what is kept of a row beside its stop cell: its thread id, the restart that it takes up next, the number and the content
-- of its last stop, and where its tracee is in its script
pub record KeptRow : Type 0 where
  pub tid : ℕ
  pub how : Restart
  pub number : ℕ
  pub content : Content
  pub position : Position

-- where a tracee is: where its machine is, or at its opening before it has one
abbrev pub position_of : Position → Option Position → Position
position_of opening None = opening
position_of opening (Some at) = at

pub record RunState : Type 0 where
  pub config : Config
  pub world : Contents
  pub folder : Folded
  pub rows : List KeptRow

-- ---- one row

-- the tracee stands where the history has left it
pub record IsAtRest (plan : Plan) (h : List Entry) (row : ℕ) (k : KeptRow) : Type 0 where
  pub content : k.content ≡ content_after plan.rows h row
  pub position : k.position ≡ position_at plan h row

-- the tracee has come to its death, which another row of its group holds back
pub record IsDying (plan : Plan) (h : List Entry) (row : ℕ) (k : KeptRow) : Type 0 where
  pub death : Death
  pub due : element_after plan h row ≡ DeathIs death
  pub again : (how : Restart) (x : Context) → next_element k.position how x ≡ DeathIs death

abbrev pub IsReady : Plan → List Entry → ℕ → KeptRow → Type 0
IsReady plan h row k = IsAtRest plan h row k ⊎ IsDying plan h row k

abbrev pub IsKeptAt : Phase → Plan → List Entry → ℕ → KeptRow → Type 0
IsKeptAt phase.Fresh plan h row k = (k.how ≡ first_restart) × IsReady plan h row k
IsKeptAt (phase.Resumed how) plan h row k = (k.how ≡ how) × IsReady plan h row k
IsKeptAt (phase.Stopped status) plan h row k = IsAtRest plan h row k
IsKeptAt (phase.Claimed tracer) plan h row k = IsAtRest plan h row k
IsKeptAt (phase.Dead status) plan h row k = Unit {0}
IsKeptAt phase.Reaped plan h row k = Unit {0}
IsKeptAt phase.Active plan h row k = Unit {0}

pub record IsKeptAfter (plan : Plan) (h : List Entry) (row : ℕ) (k : KeptRow) : Type 0 where
  pub tid : k.tid ≡ (row_at plan.rows row).tid
  pub number : k.number ≡ last_number (history_of h) row
  pub kept : IsKeptAt (phase_in (events_of row (history_of h))) plan h row k

-- ---- the whole run

-- a claimed row is resumed, or its death reaped, in the same turn
abbrev pub is_claimed : Phase → Bool
is_claimed (phase.Claimed tracer) = true
is_claimed other = false

-- a World of all tracers, which has come to a history
pub record CameTo (world : Contents) (h : History) : Type 0 where
  pub moment : Moment
  pub stands : StandsAt world moment
  pub history : moment.history ≡ h
  pub tracers : world.tracers ≡ TRACERS

-- the run has made this history of the case
pub record HasMade (content : CaseContent) (run : RunState) (h : List Entry) : Type 0 where
  pub known : IsCase content
  pub world : CameTo run.world (history_of h)
  pub world_rows : run.world.rows ≡ content.rows
  pub folder : Represents run.folder (pieces_of (show_of run.config) content.rows h)
  pub folder_rows : run.folder.rows ≡ content.rows
  pub legal : AreLegal content.rows h
  pub driven : AreDriven (plan_of run.config content) h
  pub long : length run.rows ≡ length content.rows
  pub each : (row : ℕ) (k : KeptRow) → slice_get run.rows row ≡ Some k
      → IsKeptAfter (plan_of run.config content) h row k

-- between two turns no stop is claimed
abbrev pub AreFree : List Entry → Type 0
AreFree h = (row : ℕ) → is_claimed (phase_in (events_of row (history_of h))) ≡ false

-- where a run stands between two turns
abbrev pub Stands : CaseContent → RunState → List Entry → Type 0
Stands content run h = HasMade content run h × AreFree h

-- ---- how many events are left at most

-- no script has more stops
abbrev pub most_stops : ℕ
most_stops = 2 + 4 * MOST_STEPS

-- of a phase: the events up to the next stop or the last claim
abbrev pub steps_left : Phase → ℕ
steps_left (phase.Stopped status) = 4
steps_left (phase.Claimed tracer) = 3
steps_left phase.Fresh = 2
steps_left (phase.Resumed how) = 2
steps_left phase.Active = 2
steps_left (phase.Dead status) = 1
steps_left phase.Reaped = 0

abbrev pub events_left : Word → ℕ
events_left word = 3 * (most_stops - word.number) + steps_left word.phase

-- the sum over the first rows
abbrev pub total : (ℕ → ℕ) → (rows : ℕ) → ℕ
total of zero = 0
total of (suc n) = total of n + of n

abbrev pub run_left : RunState → ℕ
run_left run = total (λ row. events_left (word_at run.world.words row)) (length run.world.rows)

-- ---- what a turn does

-- an event came of a turn: the history has gone on, and fewer events are left
abbrev pub Moved : CaseContent → RunState → RunState → List Entry → Type 0
Moved content run new h = (later : List Entry) × Stands content new later × (run_left new < run_left run)

-- a history goes on from another by events of one actor
abbrev pub GoesOnBy : Actor → (sooner later : List Entry) → Type 0
GoesOnBy actor sooner later =
    (more : List Entry) × (later ≡ more ++ sooner) × All (λ x. actor_of x.event ≡ actor) more

-- the same of a turn of this actor: the events are its own
abbrev pub MovedBy : Actor → CaseContent → RunState → RunState → List Entry → Type 0
MovedBy actor content run new h =
    (later : List Entry) × Stands content new later × (run_left new < run_left run) × GoesOnBy actor h later

-- a row that does not run, or whose death another row of its group holds back
abbrev pub IsHeldOrIdle : CaseContent → List Entry → ℕ → Type 0
IsHeldOrIdle content h row =
    (state_after content.rows (history_of h) row ≢ state.Running)
    ⊎ ((other : ℕ) × (holding_back content.rows (state_after content.rows (history_of h)) row ≡ Some other))

-- no row has anything to report
abbrev pub HasNothingToReport : CaseContent → List Entry → Type 0
HasNothingToReport content h =
    (row : ℕ) → row < length content.rows → is_waitable (state_after content.rows (history_of h) row) ≡ false

-- each row will never be born, or has been reaped
abbrev pub IsRunOver : CaseContent → List Entry → Type 0
IsRunOver content h =
    (row : ℕ) → row < length content.rows
    → (state_after content.rows (history_of h) row ≡ state.Unborn)
    ⊎ (state_after content.rows (history_of h) row ≡ state.Reaped)
