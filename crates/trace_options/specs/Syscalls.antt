-- The system calls that are known by name (syscalls(2)), with their numbers on x86-64.
use Rattle.std.specs.Prelude.{ℕ, ◌==◌, List, map, Option, find, bytes_eq}
use Rattle.std.specs.Borrow.{Bor}
use Rattle.trace_options.specs.declared.argument_kind.ArgumentKind.{ArgumentKind}
use Rattle.trace_options.specs.declared.syscall.Syscall.{Syscall}
use Rattle.trace_options.specs.declared.syscall.TheConstants.{SYSCALLS}

-- a system call: its number, its name, and how its arguments are printed, the first one first
pub record SyscallRow : Type 0 where
  pub number : ℕ
  pub name : List ℕ
  pub arguments : List ArgumentKind

abbrev pub syscall_row : Syscall → SyscallRow
syscall_row call = record { number = call.number; name = call.name.now; arguments = call.arguments.now }

-- a row of the program's table
abbrev pub row_in : ℕ × Bor (List ℕ) × Bor (List ArgumentKind) → SyscallRow
row_in row = record { number = row.0; name = row.1.now; arguments = row.2.now }

-- the system calls, in the order of their numbers
unfoldable pub syscall_table : List SyscallRow
syscall_table = map (λ row. record { number = row.0; name = row.1.now; arguments = row.2.now }) SYSCALLS

-- the call of a number
abbrev pub syscall_numbered : ℕ → Option SyscallRow
syscall_numbered number = find (λ call. call.number == number) syscall_table

-- the call of a name
abbrev pub syscall_named : List ℕ → Option SyscallRow
syscall_named name = find (λ call. bytes_eq call.name name) syscall_table
