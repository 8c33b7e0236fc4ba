-- What the events of a row make of its word.
use Rattle.std.specs.Prelude.{◌+◌, ℕ, List, Result, Ok, Err, is_some, if◌then◌else◌, slice_set}
use Rattle.trace_record.specs.declared.stop.Stop.{Stop}
use Rattle.trace_record.specs.declared.resume.Resume.{Resume}
use Rattle.trace_record.specs.declared.death.Death.{Death}
use Rattle.trace_record.specs.Stop.{child_of, stop_status}
use Rattle.trace_record.specs.Death.{death_status}
use Rattle.stop_history.specs.declared.refused.Refused.{Refused}
use Rattle.stop_history.specs.Word.{Word}
use Rattle.stop_history.specs.declared.phase.Phase.{Phase}
use Rattle.stop_history.specs.declared.phase.Phase.TheVariants as phase

-- the next stop, with a birth counted
abbrev pub published : Word → Stop → Word
published word stop =
    record {
      phase = phase.Stopped (stop_status stop);
      births = if is_some
          (child_of stop) then word.births + 1 else word.births;
      number = word.number + 1;
    }

-- a stop is claimed, a death is reaped
abbrev pub claimed_by : ℕ → Phase → Phase
claimed_by tracer (phase.Dead status) = phase.Reaped
claimed_by tracer other = phase.Claimed tracer

abbrev pub claimed : Word → ℕ → Word
claimed word tracer = record { phase = claimed_by tracer word.phase; births = word.births; number = word.number }

abbrev pub restarted : Word → Resume → Word
restarted word how = record { phase = phase.Resumed how; births = word.births; number = word.number }

abbrev pub died : Word → Death → Word
died word death = record { phase = phase.Dead (death_status death); births = word.births; number = word.number }

-- the words with the row's replaced where a call is answered, and as they were where it is refused
abbrev pub with_word : {A : Type 0} → Result A Refused → List Word → ℕ → Word → List Word
with_word (Ok answer) words row word = slice_set words row word
with_word (Err refusal) words row word = words
