-- Each tracee so far has its machine.
use Rattle.std.proofs.Common.{◌≡◌, ◌≤◌, length}
use Rattle.std.specs.List.{AllZip}
use Rattle.std.specs.Vec.{vec_capacity, vec_len}
use Rattle.tracer_workers.specs.Config.{plan_of}
use Rattle.tracer_workers.specs.TraceeThread.{IsToStart}
use Rattle.tracer_workers.proofs.threaded.with_machines.Given as goal

abbrev pub invariant-loop-tracee : goal.invariant-loop-tracee
invariant-loop-tracee g l = record {
  zip : AllZip (λ e s. (s.tracee ≡ e) × IsToStart (plan_of l.fn.config l.fn.case) s.tracee s.machine) l.yielded l.all.items;
  row : l.row ≡ length l.yielded;
  room : vec_len l.fn.tracees ≤ vec_capacity l.all;
}
