-- The rows so far are new.
use Rattle.std.proofs.Common.{◌≡◌, ℕ, length}
use Rattle.record_printer.specs.Kept.{empty_row}
use Rattle.record_printer.specs.Represents.{kept_at}
use Rattle.record_printer.proofs.fold.folder.new_rows.Given as goal

abbrev pub invariant-loop-row : goal.invariant-loop-row
invariant-loop-row g l = record {
  len : length l.kept.items ≡ l._row;
  new : (r : ℕ) → kept_at l.kept.items r ≡ empty_row;
}
