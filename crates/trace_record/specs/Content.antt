-- The content of a stop's record, and what its tracer is shown of it (ptrace(2), PTRACE_GET_SYSCALL_INFO,
-- PTRACE_GETEVENTMSG).
use Rattle.std.specs.Prelude.{ℕ}
use Rattle.std.specs.FinMap as finite
use Rattle.std.specs.Int.{w64, cast_signed}
use Rattle.trace_pages.specs.FlatMemory.{FlatMemory}
use Rattle.trace_regs.specs.Outcome.{is_error_answer}
use Rattle.trace_regs.specs.Regs.{arguments_of}
use Rattle.trace_regs.specs.declared.regs.Regs.{Regs}
use Rattle.trace_status.specs.declared.syscall_info.SyscallInfo.{SyscallInfo}
use Rattle.trace_status.specs.declared.syscall_info.Part.{Part}
use Rattle.trace_status.specs.declared.syscall_info.Part.TheVariants as part
use Rattle.trace_record.specs.Death.{death_status}
use Rattle.trace_record.specs.declared.stop.Stop.{Stop}
use Rattle.trace_record.specs.declared.stop.Stop.TheVariants.{Start, Enter, Exit, Seccomp, Fork, Clone, Exec, Signal}
use Rattle.trace_record.specs.declared.stop.Stop.TheVariants.{Ending}
use Rattle.trace_record.specs.declared.stop_record.TheConstants.{AUDIT_ARCH_X86_64}

-- the content: whose stop it is, its number, the stop, the registers and the flat memory there
pub record Content : Type 0 where
  pub tid : ℕ
  pub number : ℕ
  pub stop : Stop
  pub regs : Regs
  pub memory : FlatMemory

abbrev pub content_by : ℕ → ℕ → Stop → Regs → FlatMemory → Content
content_by tid number stop regs memory =
    record { tid = tid; number = number; stop = stop; regs = regs; memory = memory }

-- registers that are all 0
abbrev pub zero_regs : Regs
zero_regs = record {
  r15 = 0;
  r14 = 0;
  r13 = 0;
  r12 = 0;
  rbp = 0;
  rbx = 0;
  r11 = 0;
  r10 = 0;
  r9 = 0;
  r8 = 0;
  rax = 0;
  rcx = 0;
  rdx = 0;
  rsi = 0;
  rdi = 0;
  orig_rax = 0;
  rip = 0;
  cs = 0;
  eflags = 0;
  rsp = 0;
  ss = 0;
  fs_base = 0;
  gs_base = 0;
  ds = 0;
  es = 0;
  fs = 0;
  gs = 0;
}

-- the empty record of a tracee
abbrev pub empty_content : ℕ → Content
empty_content tid = content_by tid 0 Start zero_regs finite.empty

-- what the kind of a stop adds to its information
abbrev pub part_of : Stop → Regs → Part
part_of Enter regs = part.Entry regs.orig_rax (arguments_of regs)
part_of Exit regs = part.Exit (cast_signed w64 regs.rax) (is_error_answer (cast_signed w64 regs.rax))
part_of (Seccomp ret_data) regs = part.Seccomp regs.orig_rax (arguments_of regs) ret_data
part_of Start regs = part.Quiet
part_of (Fork child) regs = part.Quiet
part_of (Clone child) regs = part.Quiet
part_of (Exec former) regs = part.Quiet
part_of (Signal signal) regs = part.Quiet
part_of (Ending death) regs = part.Quiet

-- the information of a stop
abbrev pub info_of : Stop → Regs → SyscallInfo
info_of stop regs = record { arch = AUDIT_ARCH_X86_64; ip = regs.rip; sp = regs.rsp; part = part_of stop regs }

-- the event message of a stop (ptrace(2), PTRACE_GETEVENTMSG)
abbrev pub message_of : Stop → ℕ
message_of (Fork child) = child
message_of (Clone child) = child
message_of (Exec former) = former
message_of (Seccomp ret_data) = ret_data
message_of Start = 0
message_of Enter = 0
message_of Exit = 0
message_of (Signal signal) = 0
-- the wait status of the death that comes
message_of (Ending death) = death_status death
