-- How a tracee ends, and the wait status that reports it (wait(2), WIFEXITED and WIFSIGNALED).
use Rattle.std.specs.Prelude.{◌+◌, ◌*◌, ◌<◌, ℕ, if◌then◌else◌}
use Rattle.trace_status.specs.WaitStatus.{IsSignal}
use Rattle.trace_status.specs.declared.wait_status.TheConstants.{CORE_DUMPED}
use Rattle.trace_status.specs.declared.wait_status.WaitStatus.{WaitStatus}
use Rattle.trace_status.specs.declared.wait_status.WaitStatus.TheVariants as status
use Rattle.trace_record.specs.declared.death.Death.{Death}
use Rattle.trace_record.specs.declared.death.Death.TheVariants.{Exited, Signaled}

-- the wait status that a wait for the tracee pid returns of a death
abbrev pub death_wait_status : ℕ → Death → WaitStatus
death_wait_status pid (Exited code) = status.Exited pid code
death_wait_status pid (Signaled signal core) = status.Signaled pid signal core

-- its raw value
abbrev pub death_status : Death → ℕ
death_status (Exited code) = code * 0x100
death_status (Signaled signal core) = signal + (if core then CORE_DUMPED else 0)

-- a death that a tracee can have: an exit code is a byte, the signal one of Linux's
abbrev pub IsDeath : Death → Type 0
IsDeath (Exited code) = code < 256
IsDeath (Signaled signal core) = IsSignal signal
