-- The registers as C has them: the same, one by one.
use Rattle.trace_regs.specs.declared.regs.Regs.{Regs}
use Rattle.c_interface.specs.declared.regs.CRegs.{CRegs}

abbrev pub c_regs : Regs → CRegs
c_regs regs = record {
  r15 = regs.r15;
  r14 = regs.r14;
  r13 = regs.r13;
  r12 = regs.r12;
  rbp = regs.rbp;
  rbx = regs.rbx;
  r11 = regs.r11;
  r10 = regs.r10;
  r9 = regs.r9;
  r8 = regs.r8;
  rax = regs.rax;
  rcx = regs.rcx;
  rdx = regs.rdx;
  rsi = regs.rsi;
  rdi = regs.rdi;
  orig_rax = regs.orig_rax;
  rip = regs.rip;
  cs = regs.cs;
  eflags = regs.eflags;
  rsp = regs.rsp;
  ss = regs.ss;
  fs_base = regs.fs_base;
  gs_base = regs.gs_base;
  ds = regs.ds;
  es = regs.es;
  fs = regs.fs;
  gs = regs.gs;
}

abbrev pub regs_of : CRegs → Regs
regs_of regs = record {
  r15 = regs.r15;
  r14 = regs.r14;
  r13 = regs.r13;
  r12 = regs.r12;
  rbp = regs.rbp;
  rbx = regs.rbx;
  r11 = regs.r11;
  r10 = regs.r10;
  r9 = regs.r9;
  r8 = regs.r8;
  rax = regs.rax;
  rcx = regs.rcx;
  rdx = regs.rdx;
  rsi = regs.rsi;
  rdi = regs.rdi;
  orig_rax = regs.orig_rax;
  rip = regs.rip;
  cs = regs.cs;
  eflags = regs.eflags;
  rsp = regs.rsp;
  ss = regs.ss;
  fs_base = regs.fs_base;
  gs_base = regs.gs_base;
  ds = regs.ds;
  es = regs.es;
  fs = regs.fs;
  gs = regs.gs;
}
