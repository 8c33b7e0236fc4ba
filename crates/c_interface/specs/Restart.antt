-- A restart in two numbers (ptrace(2), PTRACE_CONT, PTRACE_SYSCALL).
use Rattle.std.specs.Prelude.{◌≡◌, ℕ}
use Rattle.trace_record.specs.declared.resume.Kind.{Kind}
use Rattle.trace_record.specs.declared.resume.Kind.TheVariants as kind
use Rattle.trace_record.specs.declared.resume.Resume.{Resume}
use Rattle.c_interface.specs.declared.restart.CRestart.{CRestart}
use Rattle.c_interface.specs.declared.restart.TheConstants.CRestart.{CONT, SYSCALL}

abbrev pub restart_kind : Kind → ℕ
restart_kind kind.Cont = CONT
restart_kind kind.Syscall = SYSCALL

abbrev pub restart_numbers : Resume → CRestart
restart_numbers how = record { kind = restart_kind how.kind; signal = how.signal }

-- PTRACE_CONT without a signal
abbrev pub cont_without_signal : Resume
cont_without_signal = record { kind = kind.Cont; signal = 0 }

-- no kind has this number
abbrev pub IsOfNoKind : ℕ → Type 0
IsOfNoKind number = (kind : Kind) → restart_kind kind ≡ number → ⊥
