-- The exits that were refused so far have changed nothing.
use Rattle.tracer_workers.specs.TraceeThread.{HasLooked}
use Rattle.tracer_workers.proofs.tracee_thread.end_row.Given as goal

abbrev pub invariant-loop : goal.invariant-loop
invariant-loop g l =
    (goal.iterator-loop g).can_next l.iterator' × (goal.iterator-loop g).is_finite l.iterator'
    × HasLooked l.fn.tracee l.tracee
