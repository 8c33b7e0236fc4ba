-- The tracer's table stays the same.
use Rattle.std.proofs.Common.{◌≡◌}
use Rattle.thread_tests.proofs.cells.stress.Tally.sweep.Given as goal

abbrev pub invariant-loop-row : goal.invariant-loop-row
invariant-loop-row l = l.desk.tracer.table_id ≡ l.initial.desk.tracer.table_id
