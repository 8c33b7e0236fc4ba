-- The policy's restart is one that the tracee takes.
use Rattle.std.proofs.Common.{◌∙◌, ap, subst, sym}
use Rattle.trace_calls.specs.ByRow.{IsRowRestart}
use Rattle.trace_record.specs.Resume.{IsResume}
use Rattle.tracer_workers.specs.Config.{policy_of}
use Rattle.tracer_workers.proofs.WorkerThreads.{not_refused, restart_ranged}
use Rattle.tracer_workers.proofs.worker_thread.restart.Goals as goal

pub unreachable-requires-in_default-restart_row : goal.unreachable-requires-in_default-restart_row
unreachable-requires-in_default-restart_row g c =
    let s = c.in-Some.ensures.some in
    let a = c.args.calls.now in
    let how = c.policy-how.ensures ∙ ap (policy_of c.args.config.now) s.1 in
    not_refused a c.restart_row.new.self c.args.row c.policy-how.result c.in_default-restart_row.field-0 s.0
    (subst IsResume (sym how) (restart_ranged c.args.config.now a c.of_calls.ensures.handle c.of_calls.ensures.records c.args.row s.0))
    (subst (IsRowRestart a c.restart_row.new.self c.args.row c.policy-how.result) c.in_default-restart_row.is
    c.restart_row.ensures.answer)
