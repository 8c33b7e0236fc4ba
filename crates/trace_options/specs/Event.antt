-- The events of ptrace(2), "PTRACE_EVENT stops", and their numbers (<sys/ptrace.h>).
use Rattle.std.specs.Prelude.{ℕ}
use Rattle.trace_options.specs.declared.event.Event.{Event}
use Rattle.trace_options.specs.declared.event.Event.TheVariants.{Fork, Vfork, Clone, Exec, VforkDone, Exit}
use Rattle.trace_options.specs.declared.event.Event.TheVariants.{Seccomp, Stop}

-- the number of an event
abbrev pub code_of : Event → ℕ
code_of Fork = 1
code_of Vfork = 2
code_of Clone = 3
code_of Exec = 4
code_of VforkDone = 5
code_of Exit = 6
code_of Seccomp = 7
code_of Stop = 128
