-- The lines so far are of no turn.
use Rattle.std.proofs.Common.{◌≡◌, length}
use Rattle.std.specs.List.{All}
use Rattle.outcome_text.specs.KeptLines.{IsEmptyLine}
use Rattle.outcome_text.proofs.kept_lines.KeptLines.new.Given as goal

abbrev pub invariant-loop-slot : goal.invariant-loop-slot
invariant-loop-slot g l = record {
  long : length l.slots.items ≡ l._slot;
  empty : All IsEmptyLine l.slots.items;
}
