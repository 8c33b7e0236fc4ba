-- The answer is that of the wait by row, without the row and the number.
use Rattle.std.proofs.Common.{◌∙◌, Some, ap, subst, sym}
use Rattle.std.proofs.lemmas.Int.{to_z-of_z}
use Rattle.std.specs.Int.{w32}
use Rattle.trace_calls.specs.Answer.{IsWaitAnswer}
use Rattle.stop_history.specs.WaitRequest.{waitpid_request}
use Rattle.trace_calls.proofs.Told.{told_wait}
use Rattle.trace_calls.proofs.calls.Calls.waitpid_blocking.Goals as goal

pub returns-clause-answer : goal.returns-clause-answer
returns-clause-answer g c =
    let a = c.args.self.now in
    let b = c.wait_by.new.self in
    let asked = sym c.in-Some.is ∙ c.waitpid_request.ensures
    ∙ ap (λ p. waitpid_request p c.args.flags) (to_z-of_z w32 c.args.pid c.ranges.pid) in
    subst (λ request. IsWaitAnswer request a b c.without_row.result) asked
    (subst (IsWaitAnswer (Some c.in-Some.request) a b) (sym c.without_row.ensures)
    (told_wait (Some c.in-Some.request) a b c.wait_by.result c.wait_by.ensures.answer))
