-- Events: what changes a row. Its tracee publishes a stop or exits, a tracer claims a stop or a death (waitid(2)
-- without WNOWAIT) and resumes it (ptrace(2), PTRACE_SYSCALL and PTRACE_CONT). A history is a list of them.
use Rattle.std.specs.Prelude.{◌==◌, ℕ, List, filter}
use Rattle.trace_record.specs.declared.stop.Stop.{Stop}
use Rattle.trace_record.specs.declared.resume.Resume.{Resume as Restart}
use Rattle.trace_record.specs.declared.death.Death.{Death}

-- `number` is that of the row's last stop
pub data Event : Type 0 where
  Publish : (row number : ℕ) → (stop : Stop) → Event
  Claim : (row number tracer : ℕ) → Event
  Resume : (row number : ℕ) → (how : Restart) → (tracer : ℕ) → Event
  Exit : (row : ℕ) → (death : Death) → Event

-- the newest event first
abbrev pub History : Type 0
History = List Event

-- the row that an event changes
abbrev pub subject : Event → ℕ
subject (Publish row number stop) = row
subject (Claim row number tracer) = row
subject (Resume row number how tracer) = row
subject (Exit row death) = row

-- the events of one row
abbrev pub events_of : ℕ → History → List Event
events_of row h = filter (λ e. subject e == row) h
