-- While the slots are turned, they are those of the rows of which as many have been turned.
use Rattle.std.proofs.Common.{◌≡◌, ◌++◌, drop, take}
use Rattle.stop_table.specs.Tracer.{emptied}
use Rattle.stop_table.proofs.held.Held.turn.Given as goal

abbrev pub invariant-loop : goal.invariant-loop
invariant-loop g l = record {
  table_id : l.seat.table_id ≡ l.initial.seat.table_id;
  id : l.seat.id ≡ l.initial.seat.id;
  view : l.seat.me.0 ≡ l.initial.seat.me.0;
  slots : l.seat.me.1 ≡ emptied (drop l.counter l.self ++ take l.counter l.self);
}
