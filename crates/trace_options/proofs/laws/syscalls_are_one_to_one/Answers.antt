-- The table of system calls is in order, and each call of it is found by its name and by its number.
use Rattle.std.proofs.Common.{◌≡◌, ◌==◌, Some, bytes_eq, map, refl}
use Rattle.trace_options.specs.Syscalls.{SyscallRow, syscall_named, syscall_numbered, syscall_table}
use Rattle.trace_options.proofs.Rows.{found_by_name, found_by_number}
use Rattle.trace_options.proofs.Tables.{found, rising}
use Rattle.trace_options.proofs.laws.syscalls_are_one_to_one.Goals as goal

pub returns-clause-rising : goal.returns-clause-rising
unfolding syscall_table
returns-clause-rising c = rising (map (λ (call : SyscallRow). call.number) syscall_table) refl

pub returns-clause-by_name : goal.returns-clause-by_name
returns-clause-by_name c = λ number.
    found {X = SyscallRow} (λ call. call.number == number) (λ call. syscall_named call.name ≡ Some call)
    syscall_table found_by_name

pub returns-clause-by_number : goal.returns-clause-by_number
returns-clause-by_number c = λ name.
    found {X = SyscallRow} (λ call. bytes_eq call.name name) (λ call. syscall_numbered call.number ≡ Some call)
    syscall_table found_by_number
