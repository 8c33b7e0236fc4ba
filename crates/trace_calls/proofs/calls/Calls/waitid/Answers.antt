-- The answer is that of the wait by row, without the row and the number.
use Rattle.std.proofs.Common.{subst, sym}
use Rattle.trace_calls.specs.Answer.{IsWaitAnswer}
use Rattle.stop_history.specs.WaitRequest.{waitid_request}
use Rattle.trace_calls.proofs.Told.{told_wait}
use Rattle.trace_calls.proofs.calls.Calls.waitid.Goals as goal

pub returns-clause-answer : goal.returns-clause-answer
returns-clause-answer g c =
    subst (IsWaitAnswer (waitid_request c.args.id c.args.flags) c.args.self.now c.wait_row.new.self)
    (sym c.without_row.ensures)
    (told_wait (waitid_request c.args.id c.args.flags) c.args.self.now c.wait_row.new.self c.wait_row.result
    c.wait_row.ensures.answer)
