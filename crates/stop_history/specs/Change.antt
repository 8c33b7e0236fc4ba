-- What one atomic step on the cells changes: nothing, or a tracee takes its row up, or an event happens (ptrace(2),
-- "Stopped states": a tracee runs from its restart to its next stop).
use Rattle.std.specs.Prelude.{◌≡◌, ◌==◌, ◌&&◌, ◌||◌, ◌∷◌, ℕ, Bool, false, not, List, Result, Ok, Err, slice_set}
use Rattle.trace_record.specs.declared.resume.Kind.TheVariants.{Cont}
use Rattle.trace_record.specs.declared.resume.Resume.{Resume as Restart}
use Rattle.stop_history.specs.declared.phase.Phase.{Phase}
use Rattle.stop_history.specs.declared.phase.Phase.TheVariants as phase
use Rattle.stop_history.specs.declared.refused.Refused.{Refused}
use Rattle.stop_history.specs.declared.refused.Refused.TheVariants as refused
use Rattle.stop_history.specs.declared.roster.Row.{Row}
use Rattle.stop_history.specs.declared.state.State.TheVariants as state
use Rattle.stop_history.specs.Event as event
use Rattle.stop_history.specs.Event.{Event, History, subject}
use Rattle.stop_history.specs.History.{Fits}
use Rattle.stop_history.specs.State.{state_after}
use Rattle.stop_history.specs.Step.{claimed, died, published, restarted}
use Rattle.stop_history.specs.Word.{Word, word_at}

pub data Change : Type 0 where
  Nothing : Change
  TakenUp : (row : ℕ) → Change
  Happened : (e : Event) → Change

-- the word after an event of its row
abbrev pub word_after_event : Word → Event → Word
word_after_event word (event.Publish row number stop) = published word stop
word_after_event word (event.Claim row number tracer) = claimed word tracer
word_after_event word (event.Resume row number how tracer) = restarted word how
word_after_event word (event.Exit row death) = died word death

-- the word of a row that its tracee has taken up
abbrev pub taken_up : Word → Word
taken_up word = record { phase = phase.Active; births = word.births; number = word.number }

-- the restart that a tracee takes up: that of its last resume, or to its first stop
abbrev pub restart_in : Phase → Result Restart Refused
restart_in phase.Fresh = Ok (record { kind = Cont; signal = 0 })
restart_in (phase.Resumed how) = Ok how
restart_in other = Err refused.NotRunning

abbrev pub words_with : Change → List Word → List Word
words_with Nothing words = words
words_with (TakenUp row) words = slice_set words row (taken_up (word_at words row))
words_with (Happened e) words = slice_set words (subject e) (word_after_event (word_at words (subject e)) e)

abbrev pub history_with : Change → History → History
history_with Nothing h = h
history_with (TakenUp row) h = h
history_with (Happened e) h = e ∷ h

-- whether an event ends the run of a row: its next stop, or its exit
abbrev pub ends_run : Event → ℕ → Bool
ends_run (event.Publish row number stop) other = other == row
ends_run (event.Exit row death) other = other == row
ends_run e other = false

-- a row is taken up from its take-up to its next publish or exit
abbrev pub taken_with : Change → (ℕ → Bool) → ℕ → Bool
taken_with Nothing taken other = taken other
taken_with (TakenUp row) taken other = other == row || taken other
taken_with (Happened e) taken other = not (ends_run e other) && taken other

-- a change that a history allows: a running row is taken up, an event fits
abbrev pub IsAllowed : List Row → History → Change → Type 0
IsAllowed rows h Nothing = Unit {0}
IsAllowed rows h (TakenUp row) = state_after rows h row ≡ state.Running
IsAllowed rows h (Happened e) = Fits rows h e
