-- What the kind of a stop adds is read by its kind.
use Rattle.std.proofs.Common.{Some, ap, arith, rules}
use Rattle.trace_status.specs.SyscallInfo.{info_bytes}
use Rattle.trace_status.proofs.Layouts.{entry_told, exit_told, has_length, quiet_told, seccomp_told, signed_read}
use Rattle.trace_status.proofs.syscall_info.part_at.Goals as goal

pub returns-in-24-clause-each : goal.returns-in-24-clause-each
unfolding info_bytes
returns-in-24-clause-each c =
    λ info fits same. ap Some (quiet_told info.arch info.ip info.sp info.part c.args.bytes.now same c.in-24.is)

pub returns-in-80-clause-each : goal.returns-in-80-clause-each
unfolding info_bytes
returns-in-80-clause-each c = λ info fits same.
    ap Some (entry_told info.arch info.ip info.sp info.part c.args.bytes.now _ _ fits.3 same c.in-80.is
    c.word_at.ensures c.args_at.ensures)

pub returns-in-33-clause-each : goal.returns-in-33-clause-each
unfolding info_bytes
returns-in-33-clause-each c = λ info fits same.
    ap Some (exit_told info.arch info.ip info.sp info.part c.args.bytes.now _ fits.3 same c.in-33.is
    (signed_read c.cast_signed.result _ _ c.cast_signed.ensures c.word_at-in-33.ensures))

pub returns-in-84-clause-each : goal.returns-in-84-clause-each
unfolding info_bytes
returns-in-84-clause-each c = λ info fits same.
    ap Some (seccomp_told info.arch info.ip info.sp info.part c.args.bytes.now _ _ _ fits.3 same c.in-84.is
    c.word_at-in-84.ensures c.args_at-in-84.ensures c.half_at.ensures)

pub returns-in_default-clause-each : goal.returns-in_default-clause-each
unfolding info_bytes
returns-in_default-clause-each c = λ info fits same.
    absurd (has_length info.arch info.ip info.sp info.part c.args.bytes.now same (search rules)
    (λ e. omega (arith, e)) (grind arith) (search (rules, c.in_default)))
