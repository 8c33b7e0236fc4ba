-- A thread was started for each tracer so far.
use Rattle.std.proofs.Common.{◌≡◌}
use Rattle.std.specs.List.{AllZip}
use Rattle.std.specs.Vec.{vec_capacity}
use Rattle.tracer_workers.proofs.threaded.worker_threads.start_workers.Given as goal

abbrev pub invariant-loop-tracer : goal.invariant-loop-tracer
invariant-loop-tracer g l = record {
  zip : AllZip (λ e h. (h.promise.tracer.value ≡ e) × (h.promise.config ≡ l.fn.shared.config.now)) l.yielded
      l.threads.items;
  room : vec_capacity l.threads ≡ vec_capacity l.fn.threads;
}
