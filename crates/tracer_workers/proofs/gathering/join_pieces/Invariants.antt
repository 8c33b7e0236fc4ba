-- The folder has the pieces so far.
use Rattle.std.proofs.Common.{◌≡◌, reverse}
use Rattle.record_printer.specs.Represents.{Represents}
use Rattle.tracer_workers.proofs.gathering.join_pieces.Given as goal

abbrev pub invariant-loop-piece : goal.invariant-loop-piece
invariant-loop-piece g l = record {
  rows : l.folder.rows ≡ l.fn.roster;
  came : Represents l.folder (reverse l.yielded);
}
