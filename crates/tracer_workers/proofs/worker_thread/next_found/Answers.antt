-- The waits for one row each that reported nothing only looked; so what is answered last is answered of the whole.
use Rattle.std.proofs.Common.{refl}
use Rattle.trace_calls.proofs.Turns.{any_answered, row_found, row_passed}
use Rattle.tracer_workers.proofs.worker_thread.next_found.Goals as goal

pub returns-in-Some-clause-answer : goal.returns-in-Some-clause-answer
returns-in-Some-clause-answer g c =
    row_found c.args.calls.now c.loop-row.calls c.wait_one.new.self c.loop-row.invariant c.loop-row.calls.view.roster
    c.loop-row.row c.in-Some.found c.wait_one.result c.in-Some.ensures c.wait_one.ensures.answer

pub loop-row-preserved : goal.loop-row-preserved
loop-row-preserved g c =
    row_passed c.args.calls.now c.loop-row.calls c.wait_one.new.self c.loop-row.invariant c.loop-row.calls.view.roster
    c.loop-row.row c.wait_one.result c.wait_one.ensures.table c.in_default.ensures c.wait_one.ensures.answer

pub returns-clause-answer : goal.returns-clause-answer
returns-clause-answer g c =
    any_answered c.args.calls.now c.loop-row.calls c.wait_row_blocking.new.self c.loop-row.invariant
    c.status_in-2.result c.wait_row_blocking.result c.status_in-2.ensures (c.wait_row_blocking.ensures.waits refl)
    c.wait_row_blocking.ensures.answer
