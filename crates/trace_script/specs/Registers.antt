-- The registers of a scripted tracee: where its program starts, at the entry to a system call, and after it
-- (syscall(2), "Architecture calling conventions"; execve(2)). All others stay as they are.
use Rattle.std.specs.Prelude.{◌+◌, ◌-◌, ◌%◌, ◌^◌, ℕ, List, slice_index}
use Rattle.trace_record.specs.Content.{zero_regs}
use Rattle.trace_regs.specs.Regs.{arguments_of}
use Rattle.trace_regs.specs.declared.regs.Regs.{Regs}

-- orig_rax where no call is underway: -1
abbrev pub no_call : ℕ
no_call = 2 ^ 64 - 1

-- rax at the entry to a call: -ENOSYS, until the call has an answer (syscall(2); errno(3))
abbrev pub no_answer : ℕ
no_answer = 2 ^ 64 - 38

-- a call's instruction, `syscall`, has two bytes
abbrev pub after_syscall : ℕ → ℕ
after_syscall rip = (rip + 2) % 2 ^ 64

-- these four registers and the six of the arguments, and all others of another set
abbrev pub changed : (orig_rax rax rip rsp : ℕ) → (arguments : List ℕ) → Regs → Regs
changed orig_rax rax rip rsp arguments r = record {
  r15 = r.r15;
  r14 = r.r14;
  r13 = r.r13;
  r12 = r.r12;
  rbp = r.rbp;
  rbx = r.rbx;
  r11 = r.r11;
  r10 = slice_index arguments 3;
  r9 = slice_index arguments 5;
  r8 = slice_index arguments 4;
  rax = rax;
  rcx = r.rcx;
  rdx = slice_index arguments 2;
  rsi = slice_index arguments 1;
  rdi = slice_index arguments 0;
  orig_rax = orig_rax;
  rip = rip;
  cs = r.cs;
  eflags = r.eflags;
  rsp = rsp;
  ss = r.ss;
  fs_base = r.fs_base;
  gs_base = r.gs_base;
  ds = r.ds;
  es = r.es;
  fs = r.fs;
  gs = r.gs;
}

-- a program that has just been loaded
abbrev pub first_regs : (rip rsp : ℕ) → Regs
first_regs rip rsp = changed no_call 0 rip rsp (arguments_of zero_regs) zero_regs

-- at the entry to a call
abbrev pub with_call : (nr : ℕ) → (arguments : List ℕ) → Regs → Regs
with_call nr arguments r = changed nr no_answer (after_syscall r.rip) r.rsp arguments r

-- at the start of another program
abbrev pub with_start : (rip rsp : ℕ) → Regs → Regs
with_start rip rsp r = changed r.orig_rax r.rax rip rsp (arguments_of r) r

-- after a call
abbrev pub with_answer : ℕ → Regs → Regs
with_answer answer r = changed r.orig_rax answer r.rip r.rsp (arguments_of r) r
