-- No piece so far has a zero, so the first one is that of what is left.
use Rattle.std.proofs.Common.{◌≡◌, ◌<◌, ◌+◌, ◌^◌, length}
use Rattle.std.specs.List.{position_from}
use Rattle.mem_views.specs.ByteView.{is_zero}
use Rattle.mem_views.proofs.views.place_of_zero.Given as goal

abbrev pub invariant-loop-piece : goal.invariant-loop-piece
invariant-loop-piece g l = record {
  place : position_from is_zero 0 l.fn.cut.rest ≡ position_from is_zero l.seen l.piece-iterator.rest;
  room : l.seen + length l.piece-iterator.rest < 2 ^ 64;
}
