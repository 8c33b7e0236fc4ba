-- The worker has served all that it has claimed.
use Rattle.stop_table.specs.Tracer.{IsTracerHandle}
use Rattle.trace_calls.specs.Handle.{KeepsTable, tracer_of}
use Rattle.tracer_workers.specs.WorkerThread.{HasServed}
use Rattle.tracer_workers.proofs.worker_thread.run_worker.Given as goal

abbrev pub invariant-loop : goal.invariant-loop
invariant-loop g l =
    (goal.iterator-loop g).can_next l.iterator' × (goal.iterator-loop g).is_finite l.iterator'
    × IsTracerHandle (tracer_of l.calls) × KeepsTable l.fn.calls l.calls
    × HasServed l.fn.config l.fn.calls.view l.calls.view l.kept.pieces.items l.kept.short
