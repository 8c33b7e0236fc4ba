-- The threads so far have kept their promises.
use Rattle.std.proofs.Common.{◌≡◌}
use Rattle.std.specs.List.{AllZip}
use Rattle.std.specs.Vec.{vec_capacity}
use Rattle.tracer_workers.specs.Threaded.{HasRun}
use Rattle.tracer_workers.proofs.threaded.tracee_threads.join_tracees.Given as goal

abbrev pub invariant-loop-thread : goal.invariant-loop-thread
invariant-loop-thread g l = record {
  zip : AllZip (λ h t. HasRun h.promise.tracee.value h.promise.machine.value t) l.yielded l.tracees.items;
  room : vec_capacity l.tracees ≡ vec_capacity l.fn.tracees;
}
