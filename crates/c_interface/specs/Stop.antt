-- A stop in two numbers.
use Rattle.std.specs.Prelude.{◌≡◌, ◌<◌, ◌^◌, ℕ}
use Rattle.trace_record.specs.Death.{death_status}
use Rattle.trace_record.specs.Stop.{IsStop}
use Rattle.trace_record.specs.declared.stop.Stop.{Stop}
use Rattle.trace_record.specs.declared.stop.Stop.TheVariants as stop
use Rattle.c_interface.specs.declared.stop.CStop.{CStop}
use Rattle.c_interface.specs.declared.stop.TheConstants.CStop.{START, ENTER, EXIT, SECCOMP, FORK, CLONE, EXEC, SIGNAL}
use Rattle.c_interface.specs.declared.stop.TheConstants.CStop.{ENDING}

abbrev pub in_numbers : (kind value : ℕ) → CStop
in_numbers kind value = record { kind = kind; value = value }

-- the kind, and what the stop has with it: the filter's data, the child's id, the former thread id, the signal, or the
-- raw wait status of the death
abbrev pub numbers_of : Stop → CStop
numbers_of stop.Start = in_numbers START 0
numbers_of stop.Enter = in_numbers ENTER 0
numbers_of stop.Exit = in_numbers EXIT 0
numbers_of (stop.Seccomp ret_data) = in_numbers SECCOMP ret_data
numbers_of (stop.Fork child) = in_numbers FORK child
numbers_of (stop.Clone child) = in_numbers CLONE child
numbers_of (stop.Exec former) = in_numbers EXEC former
numbers_of (stop.Signal signal) = in_numbers SIGNAL signal
numbers_of (stop.Ending death) = in_numbers ENDING (death_status death)

-- a filter's data has 16 bits (seccomp(2), SECCOMP_RET_DATA)
abbrev pub HasData : Stop → Type 0
HasData (stop.Seccomp ret_data) = ret_data < 2 ^ 16
HasData other = Unit {0}

-- a stop that a tracee can make
abbrev pub IsMade : Stop → Type 0
IsMade at = IsStop at × HasData at

-- numbers of no stop
abbrev pub AreOfNoStop : CStop → Type 0
AreOfNoStop numbers = (at : Stop) → IsMade at → numbers_of at ≡ numbers → ⊥
