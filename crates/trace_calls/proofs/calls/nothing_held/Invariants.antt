-- Of so many places, those made so far are free.
use Rattle.std.proofs.Common.{◌≡◌, ◌≤◌, None, replicate}
use Rattle.std.specs.Vec.{vec_capacity}
use Rattle.trace_calls.proofs.calls.nothing_held.Given as goal

abbrev pub invariant-loop : goal.invariant-loop
invariant-loop g l = (l.held.items ≡ replicate l.counter None) × (l.count ≤ vec_capacity l.held)
