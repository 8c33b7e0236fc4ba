-- The general registers of an x86-64 tracee, and the structure in which ptrace(2), PTRACE_GETREGS, hands them over:
-- the kernel's user_regs_struct (<sys/user.h>), 27 words of 64 bits.
use Rattle.std.specs.Prelude.{ℕ, ◌<◌, ◌^◌, List, [], ◌∷◌, All}
use Rattle.std.specs.Int.{w64, to_le_bytes}
use Rattle.std.specs.List.{flat_map}
use Rattle.trace_regs.specs.declared.regs.Regs.{Regs}

-- the registers in the order of user_regs_struct
abbrev pub words_of : Regs → List ℕ
words_of r =
    r.r15 ∷ r.r14 ∷ r.r13 ∷ r.r12 ∷ r.rbp ∷ r.rbx ∷ r.r11 ∷ r.r10 ∷ r.r9 ∷ r.r8 ∷ r.rax ∷ r.rcx ∷ r.rdx ∷ r.rsi ∷ r.rdi
    ∷ r.orig_rax ∷ r.rip ∷ r.cs ∷ r.eflags ∷ r.rsp ∷ r.ss ∷ r.fs_base ∷ r.gs_base ∷ r.ds ∷ r.es ∷ r.fs ∷ r.gs ∷ []

-- the arguments of a system call, first to sixth (syscall(2), "Architecture calling conventions")
abbrev pub arguments_of : Regs → List ℕ
arguments_of r = r.rdi ∷ r.rsi ∷ r.rdx ∷ r.r10 ∷ r.r8 ∷ r.r9 ∷ []

-- the bytes of user_regs_struct: the registers one after the other, each with its lowest byte first
unfoldable pub bytes_of : Regs → List ℕ
bytes_of r = flat_map (to_le_bytes w64) (words_of r)

-- registers of 64 bits, as any that the program has
abbrev pub AreWords : Regs → Type 0
AreWords r = All (λ word. word < 2 ^ 64) (words_of r)
