-- The seat still acts for the tracers from the next one on, and each tracer so far has its handle.
use Rattle.std.proofs.Common.{◌≡◌, ◌≤◌}
use Rattle.std.specs.Arc.{arc_value}
use Rattle.std.specs.Vec.{vec_capacity, vec_len}
use Rattle.stop_table.specs.Opening.{AreTracers, DealsTracers}
use Rattle.stop_table.proofs.opening.deal_tracers.Given as goal

abbrev pub invariant-loop-number : goal.invariant-loop-number
invariant-loop-number g l = record {
  deals : DealsTracers (arc_value l.cells) l.seat l.number;
  len : vec_len l.handles ≡ l.number;
  room : l.count ≤ vec_capacity l.handles;
  handles : AreTracers (arc_value l.cells).table.shared.table_id (arc_value l.cells).table.shared.key l.handles.items;
}
