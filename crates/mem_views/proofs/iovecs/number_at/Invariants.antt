-- The bytes so far are written, and the others are left.
use Rattle.std.proofs.Common.{◌≡◌, ◌+◌, ◌++◌, length, take}
use Rattle.trace_pages.specs.FlatMemory.{run}
use Rattle.mem_views.proofs.iovecs.number_at.Given as goal

abbrev pub invariant-loop-piece : goal.invariant-loop-piece
invariant-loop-piece g l = record {
  room : l.filled + length l.piece-iterator.rest ≡ 8;
  bytes : take l.filled l.bytes ++ l.piece-iterator.rest ≡ run l.memory l.at 8;
}
