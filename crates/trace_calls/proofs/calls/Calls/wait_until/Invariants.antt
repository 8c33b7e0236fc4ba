-- The tries so far only looked.
use Rattle.trace_calls.specs.Retry.{OnlyLooked}
use Rattle.trace_calls.proofs.calls.Calls.wait_until.Given as goal

abbrev pub invariant-loop : goal.invariant-loop
invariant-loop g l =
    (goal.iterator-loop g).can_next l.iterator' × (goal.iterator-loop g).is_finite l.iterator'
    × OnlyLooked l.fn.self l.self
