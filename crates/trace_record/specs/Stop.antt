-- The stops of a tracee, and the wait status that reports each (ptrace(2), "Syscall-stops", "PTRACE_EVENT stops",
-- "Signal-delivery-stop").
use Rattle.std.specs.Prelude.{ℕ, Option, Some, None}
use Rattle.trace_options.specs.Event.{code_of}
use Rattle.trace_options.specs.declared.event.Event.TheVariants as event
use Rattle.trace_status.specs.WaitStatus.{IsSignal, raw_event, raw_stop}
use Rattle.trace_status.specs.declared.wait_status.TheConstants.{SIGTRAP, SYSCALL_TRAP}
use Rattle.trace_status.specs.declared.wait_status.WaitStatus.{WaitStatus}
use Rattle.trace_status.specs.declared.wait_status.WaitStatus.TheVariants.{Stopped, PtraceEvent, PtraceSyscall}
use Rattle.trace_record.specs.Death.{IsDeath}
use Rattle.trace_record.specs.declared.stop.Stop.{Stop}
use Rattle.trace_record.specs.declared.stop.Stop.TheVariants.{Start, Enter, Exit, Seccomp, Fork, Clone, Exec, Signal}
use Rattle.trace_record.specs.declared.stop.Stop.TheVariants.{Ending}

-- the wait status that a wait for the tracee pid returns at a stop
abbrev pub stop_wait_status : ℕ → Stop → WaitStatus
stop_wait_status pid Start = PtraceEvent pid SIGTRAP (code_of event.Stop)
stop_wait_status pid Enter = PtraceSyscall pid
stop_wait_status pid Exit = PtraceSyscall pid
stop_wait_status pid (Seccomp ret_data) = PtraceEvent pid SIGTRAP (code_of event.Seccomp)
stop_wait_status pid (Fork child) = PtraceEvent pid SIGTRAP (code_of event.Fork)
stop_wait_status pid (Clone child) = PtraceEvent pid SIGTRAP (code_of event.Clone)
stop_wait_status pid (Exec former) = PtraceEvent pid SIGTRAP (code_of event.Exec)
stop_wait_status pid (Signal signal) = Stopped pid signal
stop_wait_status pid (Ending death) = PtraceEvent pid SIGTRAP (code_of event.Exit)

-- its raw value
abbrev pub stop_status : Stop → ℕ
stop_status Start = raw_event (code_of event.Stop)
stop_status Enter = raw_stop SYSCALL_TRAP
stop_status Exit = raw_stop SYSCALL_TRAP
stop_status (Seccomp ret_data) = raw_event (code_of event.Seccomp)
stop_status (Fork child) = raw_event (code_of event.Fork)
stop_status (Clone child) = raw_event (code_of event.Clone)
stop_status (Exec former) = raw_event (code_of event.Exec)
stop_status (Signal signal) = raw_stop signal
stop_status (Ending death) = raw_event (code_of event.Exit)

-- a stop that a tracee can make: a signal that arrives is one of Linux's, a death that comes is one that it can have
abbrev pub IsStop : Stop → Type 0
IsStop (Signal signal) = IsSignal signal
IsStop (Ending death) = IsDeath death
IsStop Start = Unit {0}
IsStop Enter = Unit {0}
IsStop Exit = Unit {0}
IsStop (Seccomp ret_data) = Unit {0}
IsStop (Fork child) = Unit {0}
IsStop (Clone child) = Unit {0}
IsStop (Exec former) = Unit {0}

-- the new tracee that a stop announces (ptrace(2), PTRACE_EVENT_FORK, PTRACE_EVENT_CLONE, PTRACE_GETEVENTMSG)
abbrev pub child_of : Stop → Option ℕ
child_of (Fork child) = Some child
child_of (Clone child) = Some child
child_of Start = None
child_of Enter = None
child_of Exit = None
child_of (Seccomp ret_data) = None
child_of (Exec former) = None
child_of (Signal signal) = None
child_of (Ending death) = None
