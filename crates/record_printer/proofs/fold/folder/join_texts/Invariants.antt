-- The rows so far have their text, and the others are still kept.
use Rattle.std.proofs.Common.{◌≡◌, ◌≤◌, ℕ, List, None, length, take}
use Rattle.std.specs.List.{flat_map}
use Rattle.record_printer.specs.FolderAnswers.{lost, row_text}
use Rattle.record_printer.specs.Piece.{Piece}
use Rattle.record_printer.specs.Represents.{Represents, kept_at}
use Rattle.record_printer.proofs.fold.folder.join_texts.Given as goal

abbrev pub invariant-loop-place : goal.invariant-loop-place
invariant-loop-place g l = record {
  text : (came : List Piece) → Represents (record { rows = l.fn.rows; kept = l.fn.kept.items }) came
      → lost l.fn.rows came ≡ None → l.text.items ≡ flat_map (row_text came) (take l.place l.fn.rows);
  left : (r : ℕ) → l.place ≤ r → kept_at l.kept.items r ≡ kept_at l.fn.kept.items r;
  len : length l.kept.items ≡ length l.fn.rows;
}
