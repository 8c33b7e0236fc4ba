-- A row that is not selected is not looked at, and a look is an attempt without an exchange.
use Rattle.stop_table.proofs.Counting.{no_step, tries_by_looks}
use Rattle.trace_calls.proofs.scan.turn.Goals as goal

pub returns-then-not-has-clause-once : goal.returns-then-not-has-clause-once
returns-then-not-has-clause-once g c =
    tries_by_looks c.args.tracer.now.view c.args.tracer.now.view c.args.row (no_step c.args.tracer.now.view)

pub returns-then-request-clause-once : goal.returns-then-request-clause-once
returns-then-request-clause-once g c =
    tries_by_looks c.args.tracer.now.view c.peek.new.tracer.view c.args.row c.peek.ensures.once
