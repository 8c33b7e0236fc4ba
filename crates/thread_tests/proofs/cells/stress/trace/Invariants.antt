-- The tracer's table stays the same.
use Rattle.std.proofs.Common.{◌≡◌}
use Rattle.thread_tests.proofs.cells.stress.trace.Given as goal

abbrev pub invariant-loop : goal.invariant-loop
invariant-loop g l =
    (goal.iterator-loop g).can_next l.iterator' × (goal.iterator-loop g).is_finite l.iterator'
    × (l.desk.tracer.table_id ≡ l.initial.desk.tracer.table_id)
