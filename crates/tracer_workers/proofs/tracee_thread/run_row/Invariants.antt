-- The row has run on by events of its own, and its machine with it.
use Rattle.tracer_workers.proofs.TraceeThreads.{RunsOn}
use Rattle.tracer_workers.proofs.tracee_thread.run_row.Given as goal

abbrev pub invariant-loop : goal.invariant-loop
invariant-loop g l =
    (goal.iterator-loop g).can_next l.iterator' × (goal.iterator-loop g).is_finite l.iterator'
    × RunsOn l.fn.tracee l.tracee l.fn.machine l.machine
