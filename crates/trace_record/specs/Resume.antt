-- How a tracer restarts a tracee (ptrace(2), PTRACE_SYSCALL and PTRACE_CONT).
use Rattle.std.specs.Prelude.{◌≤◌}
use Rattle.trace_options.specs.declared.signal.TheConstants.{LAST_SIGNAL}
use Rattle.trace_record.specs.declared.resume.Resume.{Resume}

-- a restart that ptrace(2) takes: it hands over a signal, or none by 0
abbrev pub IsResume : Resume → Type 0
IsResume how = how.signal ≤ LAST_SIGNAL
