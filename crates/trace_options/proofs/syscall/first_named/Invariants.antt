-- The rows that were passed over have other names.
use Rattle.std.proofs.Common.{◌≡◌, bytes_eq, find, length, map}
use Rattle.trace_options.specs.Syscalls.{row_in}
use Rattle.trace_options.proofs.syscall.first_named.Given as goal

abbrev pub invariant-loop-rows : goal.invariant-loop-rows
invariant-loop-rows l =
    find (λ row. bytes_eq row.name l.name) (map row_in l.rows)
    ≡ find (λ row. bytes_eq row.name l.name) (map row_in l.initial.rows)

abbrev pub decreases-loop-rows : goal.decreases-loop-rows
decreases-loop-rows l = length l.rows
