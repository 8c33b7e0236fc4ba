-- The seat still acts for the rows from the next one on, and each row so far has its handle.
use Rattle.std.proofs.Common.{◌≡◌, ◌≤◌}
use Rattle.std.specs.Arc.{arc_value}
use Rattle.std.specs.Vec.{vec_capacity, vec_len}
use Rattle.stop_table.specs.Opening.{AreTracees, DealsRows}
use Rattle.stop_table.proofs.opening.deal_rows.Given as goal

abbrev pub invariant-loop-row : goal.invariant-loop-row
invariant-loop-row g l = record {
  deals : DealsRows (arc_value l.cells) l.seat l.row;
  len : vec_len l.handles ≡ l.row;
  room : l.count ≤ vec_capacity l.handles;
  handles : AreTracees (arc_value l.cells).table.shared.table_id (arc_value l.cells).table.shared.key l.handles.items;
}
