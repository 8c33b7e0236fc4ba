-- The rows of the group so far are settled beside the leader, and counted.
use Rattle.std.proofs.Common.{◌≡◌, ◌<◌, length}
use Rattle.stop_history.specs.declared.limits.TheConstants.{MOST_ROWS}
use Rattle.stop_table.specs.Group.{AreCounted, AreSettled, IsBeside}
use Rattle.stop_table.specs.Handle.{Looked, LooksOnce}
use Rattle.stop_table.specs.Seat.{IsSameSeat}
use Rattle.stop_table.proofs.cells.Cells.finds_alive.Given as goal

-- the seat has only looked, once at each row of the group so far, and none of them holds the leader back
abbrev pub invariant-loop-other : goal.invariant-loop-other
invariant-loop-other g l = record {
  seat : IsSameSeat l.fn.seat l.seat;
  slots : l.seat.me.1 ≡ l.fn.seat.me.1;
  looked : Looked l.fn.seat.me.0 l.seat.me.0;
  settled : AreSettled l.fn.seat.me.0.roster l.row l.other l.seat.me.0.seen;
  whole : length l.births ≡ MOST_ROWS;
  counted : AreCounted l.fn.seat.me.0.roster l.row l.other l.births l.seat.me.0.seen;
  once : LooksOnce (λ at. (at < l.other) × IsBeside l.fn.seat.me.0.roster l.row at) l.fn.seat.me.0 l.seat.me.0;
}
