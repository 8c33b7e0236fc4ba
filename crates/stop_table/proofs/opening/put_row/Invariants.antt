-- The record, and as many empty slots as there were turns, stand behind the slots from before.
use Rattle.std.proofs.Common.{◌≡◌, ◌++◌, None, replicate}
use Rattle.std.specs.Vec.{vec_capacity}
use Rattle.stop_table.proofs.opening.put_row.Given as goal

abbrev pub invariant-loop : goal.invariant-loop
invariant-loop g l = record {
  items : l.slots.items ≡ l.initial.slots.items ++ replicate l.counter None;
  capacity : vec_capacity l.slots ≡ vec_capacity l.initial.slots;
}
