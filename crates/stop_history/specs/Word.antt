-- The word of a row: what its stop cell keeps of it. Its meaning is a state, and a history leaves a word.
use Rattle.std.specs.Prelude.{◌≡◌, ◌<◌, ◌≤◌, ◌∷◌, [], ℕ, Bool, true, false, nat_lt, List, length, Option, Some, None}
use Rattle.std.specs.Prelude.{if◌then◌else◌, slice_index_or}
use Rattle.trace_status.specs.WaitStatus.{Encodes, pid_of}
use Rattle.trace_status.specs.declared.wait_status.WaitStatus.{WaitStatus}
use Rattle.trace_status.specs.declared.wait_status.WaitStatus.TheVariants as status
use Rattle.trace_record.specs.Stop.{stop_status}
use Rattle.trace_record.specs.Death.{death_status}
use Rattle.trace_record.specs.Resume.{IsResume}
use Rattle.stop_history.specs.declared.roster.Row.{Row}
use Rattle.stop_history.specs.declared.state.State.{State}
use Rattle.stop_history.specs.declared.state.State.TheVariants as state
use Rattle.stop_history.specs.declared.phase.Phase.{Phase}
use Rattle.stop_history.specs.declared.phase.Phase.TheVariants as phase
use Rattle.stop_history.specs.Event as event
use Rattle.stop_history.specs.Event.{Event, History, events_of}
use Rattle.stop_history.specs.Roster.{parent_of, rank_of}
use Rattle.stop_history.specs.declared.limits.TheConstants.{LAST_NUMBER, MOST_ROWS, TRACERS}
use Rattle.stop_history.specs.State.{number_in}
use Rattle.stop_history.specs.History.{births_in}

-- a row's phase, how many of its children are born, and the number of its last stop, 0 before any
pub record Word : Type 0 where
  pub phase : Phase
  pub births : ℕ
  pub number : ℕ

-- ---- the ranges of a word

-- whether a wait status reports a stop (wait(2), WIFSTOPPED), and whether a death (WIFEXITED, WIFSIGNALED)
abbrev pub reports_stop : WaitStatus → Bool
reports_stop (status.Stopped pid signal) = true
reports_stop (status.PtraceEvent pid signal event) = true
reports_stop (status.PtraceSyscall pid) = true
reports_stop other = false

abbrev pub reports_death : WaitStatus → Bool
reports_death (status.Exited pid code) = true
reports_death (status.Signaled pid signal core) = true
reports_death other = false

-- a raw value of such a status; it does not say whose, so the pid may as well be 0
abbrev pub Reports : (WaitStatus → Bool) → ℕ → Type 0
Reports test raw = (told : WaitStatus) × (pid_of told ≡ Some 0) × Encodes told raw × (test told ≡ true)

abbrev pub IsPhase : Phase → Type 0
IsPhase (phase.Resumed how) = IsResume how
IsPhase (phase.Stopped status) = Reports reports_stop status
IsPhase (phase.Claimed tracer) = tracer < TRACERS
IsPhase (phase.Dead status) = Reports reports_death status
IsPhase other = Unit {0}

-- a word that a row can have; only the opening word is fresh
pub record IsWord (word : Word) : Type 0 where
  pub of_phase : IsPhase word.phase
  pub few : word.births < MOST_ROWS
  pub last : word.number ≤ LAST_NUMBER
  pub fresh : word.phase ≡ phase.Fresh → (word.births ≡ 0) × (word.number ≡ 0)

-- ---- the meaning of a word

-- the word of a row before any event
abbrev pub opening : Word
opening = record { phase = phase.Fresh; births = 0; number = 0 }

abbrev pub word_at : List Word → ℕ → Word
word_at words row = slice_index_or words row opening

-- the state that a phase shows, of a row that is born or not, and its last number
abbrev pub shown : Bool → ℕ → Phase → State
shown born number phase.Fresh = if born then state.Running else state.Unborn
shown born number (phase.Resumed how) = state.Running
shown born number phase.Active = state.Running
shown born number (phase.Stopped status) = state.Stopped number status
shown born number (phase.Claimed tracer) = state.Claimed number tracer
shown born number (phase.Dead status) = state.Dead number status
shown born number phase.Reaped = state.Reaped

-- a row is born by the words where it has no parent, or one whose births are above the row's rank
abbrev pub shows_created : List Row → List Word → ℕ → Option ℕ → Bool
shows_created rows words row None = true
shows_created rows words row (Some parent) = nat_lt (rank_of rows row) (word_at words parent).births

-- the meaning of a row's word, among the words of all rows
abbrev pub state_by : List Row → List Word → ℕ → State
state_by rows words row =
    if nat_lt row (length rows)
    then shown (shows_created rows words row (parent_of rows row)) (word_at words row).number (word_at words row).phase
    else state.Absent

-- ---- the word that a history leaves

-- what a claim leaves, by the events before it: a stop is claimed, a death is reaped
abbrev pub claimed_phase : ℕ → List Event → Phase
claimed_phase tracer (event.Exit row death ∷ es) = phase.Reaped
claimed_phase tracer es = phase.Claimed tracer

-- of one row's events, newest first: the phase that they leave where the row is not taken up
abbrev pub phase_in : List Event → Phase
phase_in [] = phase.Fresh
phase_in (event.Publish row number stop ∷ es) = phase.Stopped (stop_status stop)
phase_in (event.Claim row number tracer ∷ es) = claimed_phase tracer es
phase_in (event.Resume row number how tracer ∷ es) = phase.Resumed how
phase_in (event.Exit row death ∷ es) = phase.Dead (death_status death)

-- a row that its tracee has taken up is active
abbrev pub raised : Bool → Phase → Phase
raised true at = phase.Active
raised false at = at

abbrev pub word_in : Bool → List Event → Word
word_in taken es = record { phase = raised taken (phase_in es); births = births_in es; number = number_in es }

-- the word of a row after a history, at which the rows of a set are taken up
abbrev pub word_after : (ℕ → Bool) → History → ℕ → Word
word_after taken h row = word_in (taken row) (events_of row h)
