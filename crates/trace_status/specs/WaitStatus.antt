-- Wait statuses: the word that wait(2) stores of a tracee, and what it means. The cases are those of the
-- macros of wait(2) (WIFEXITED, WIFSIGNALED, WIFSTOPPED), with the stops of ptrace(2).
use Rattle.std.specs.Prelude.{◌≡◌, ◌+◌, ◌*◌, ◌<◌, ◌≤◌, ℕ, if◌then◌else◌, Option, Some, None}
use Rattle.trace_options.specs.Event.{code_of}
use Rattle.trace_options.specs.declared.event.Event.{Event}
use Rattle.trace_options.specs.declared.signal.TheConstants.{LAST_SIGNAL}
use Rattle.trace_status.specs.declared.wait_status.TheConstants.{CORE_DUMPED, SIGTRAP, STOPPED, SYSCALL_TRAP}
use Rattle.trace_status.specs.declared.wait_status.WaitStatus.{WaitStatus}
use Rattle.trace_status.specs.declared.wait_status.WaitStatus.TheVariants.{Exited, Signaled, Stopped}
use Rattle.trace_status.specs.declared.wait_status.WaitStatus.TheVariants.{PtraceEvent, PtraceSyscall}
use Rattle.trace_status.specs.declared.wait_status.WaitStatus.TheVariants.{StillAlive}

-- a signal of Linux on x86-64, the real-time signals among them (signal(7))
abbrev pub IsSignal : ℕ → Type 0
IsSignal signal = (1 ≤ signal) × (signal ≤ LAST_SIGNAL)

-- the number of an event (ptrace(2), "PTRACE_EVENT stops")
abbrev pub IsEvent : ℕ → Type 0
IsEvent number = (event : Event) × (code_of event ≡ number)

-- the raw value of a stop by a signal, which is in the second byte, and of an event stop, whose event is in the third
abbrev pub raw_stop : ℕ → ℕ
raw_stop signal = signal * 0x100 + STOPPED

abbrev pub raw_event : ℕ → ℕ
raw_event event = event * 0x10000 + raw_stop SIGTRAP

-- wait(2) reports this status by this raw value
abbrev pub Encodes : WaitStatus → ℕ → Type 0
Encodes (Exited pid code) raw = (code < 256) × (raw ≡ code * 0x100)
Encodes (Signaled pid signal core) raw = IsSignal signal × (raw ≡ signal + (if core then CORE_DUMPED else 0))
Encodes (Stopped pid signal) raw = IsSignal signal × (raw ≡ raw_stop signal)
Encodes (PtraceEvent pid signal event) raw = (signal ≡ SIGTRAP) × IsEvent event × (raw ≡ raw_event event)
Encodes (PtraceSyscall pid) raw = raw ≡ raw_stop SYSCALL_TRAP
Encodes StillAlive raw = ⊥

-- the tracee that a status speaks of
abbrev pub pid_of : WaitStatus → Option ℕ
pid_of (Exited pid code) = Some pid
pid_of (Signaled pid signal core) = Some pid
pid_of (Stopped pid signal) = Some pid
pid_of (PtraceEvent pid signal event) = Some pid
pid_of (PtraceSyscall pid) = Some pid
pid_of StillAlive = None
