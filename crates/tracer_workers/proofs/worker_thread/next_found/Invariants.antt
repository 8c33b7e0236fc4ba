-- The waits so far only looked.
use Rattle.trace_calls.specs.Retry.{OnlyLooked}
use Rattle.tracer_workers.proofs.worker_thread.next_found.Given as goal

abbrev pub invariant-loop-row : goal.invariant-loop-row
invariant-loop-row g l = OnlyLooked l.fn.calls l.calls
