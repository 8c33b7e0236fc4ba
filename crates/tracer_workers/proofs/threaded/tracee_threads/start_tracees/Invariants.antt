-- A thread was started for each tracee so far.
use Rattle.std.proofs.Common.{◌≡◌}
use Rattle.std.specs.List.{AllZip}
use Rattle.std.specs.Vec.{vec_capacity}
use Rattle.tracer_workers.proofs.threaded.tracee_threads.start_tracees.Given as goal

abbrev pub invariant-loop-scripted : goal.invariant-loop-scripted
invariant-loop-scripted g l = record {
  zip : AllZip (λ s h. (h.promise.tracee.value ≡ s.tracee) × (h.promise.machine.value ≡ s.machine)) l.yielded
      l.threads.items;
  room : vec_capacity l.threads ≡ vec_capacity l.fn.threads;
}
