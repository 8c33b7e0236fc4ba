-- The threads so far have kept their promises.
use Rattle.std.proofs.Common.{◌≡◌}
use Rattle.std.specs.List.{AllZip}
use Rattle.std.specs.Vec.{vec_capacity}
use Rattle.tracer_workers.specs.Threaded.{HasWorked}
use Rattle.tracer_workers.proofs.threaded.worker_threads.join_workers.Given as goal

abbrev pub invariant-loop-thread : goal.invariant-loop-thread
invariant-loop-thread g l = record {
  zip : AllZip (λ h w. HasWorked h.promise.config h.promise.tracer.value w.tracer w.kept.pieces.items w.kept.short)
      l.yielded l.workers.items;
  room : vec_capacity l.workers ≡ vec_capacity l.fn.workers;
}
