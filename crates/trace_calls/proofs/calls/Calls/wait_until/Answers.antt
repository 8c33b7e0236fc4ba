-- What the last try answers is an answer of the whole; the tries before it only looked.
use Rattle.trace_calls.proofs.Retries.{answer_from, tried_again}
use Rattle.trace_calls.proofs.calls.Calls.wait_until.Goals as goal

pub returns-then-not-is_nothing_yet-clause-answer :
    goal.returns-then-not-is_nothing_yet-clause-answer
returns-then-not-is_nothing_yet-clause-answer g c =
    answer_from c.args.request c.args.self.now c.loop.self c.wait-answer.new.self c.loop.invariant.2 c.wait-answer.result
    c.wait-answer.ensures.answer

pub loop-preserved : goal.loop-preserved
loop-preserved g c = (
  tt,
  tt,
  tried_again c.args.request c.args.self.now c.loop.self c.wait-answer.new.self c.loop.invariant.2 c.wait-answer.result
      (c.is_nothing_yet.ensures.0 c.if-not-is_nothing_yet.false) c.wait-answer.ensures.answer c.wait-answer.ensures.table,
)
