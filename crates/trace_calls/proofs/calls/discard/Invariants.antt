-- Nothing is held.
use Rattle.std.proofs.Common.{◌≡◌, false, is_some}
use Rattle.std.specs.List.{list_any}
use Rattle.trace_calls.proofs.calls.discard.Given as goal

abbrev pub invariant-loop-last : goal.invariant-loop-last
invariant-loop-last g l = list_any is_some l.held.items ≡ false

abbrev pub decreases-loop-last : goal.decreases-loop-last
decreases-loop-last g l = goal.left-loop-last g l
