-- The slots so far are those of the rows so far, and there is room for the others.
use Rattle.std.proofs.Common.{◌≡◌, ◌≤◌, length, take}
use Rattle.std.specs.Vec.{vec_capacity, vec_len}
use Rattle.stop_table.specs.Opening.{empty_slots}
use Rattle.stop_table.specs.Place.{place}
use Rattle.stop_table.proofs.opening.empty_slots.Given as goal

abbrev pub invariant-loop-row : goal.invariant-loop-row
invariant-loop-row g l = record {
  items : l.slots.items ≡ empty_slots (take l.row-index l.rows);
  len : vec_len l.slots ≡ place l.row-index;
  room : place (length l.rows) ≤ vec_capacity l.slots;
}
