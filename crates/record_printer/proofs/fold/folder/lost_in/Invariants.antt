-- The rows so far have lost nothing.
use Rattle.std.proofs.Common.{◌≡◌, ◌-◌, List, length}
use Rattle.std.specs.List.{range_with_len}
use Rattle.record_printer.specs.FolderAnswers.{first_row_fault, lost, lost_at}
use Rattle.record_printer.specs.Piece.{Piece}
use Rattle.record_printer.specs.Represents.{Represents}
use Rattle.record_printer.proofs.fold.folder.lost_in.Given as goal

abbrev pub invariant-loop-place : goal.invariant-loop-place
invariant-loop-place g l = (came : List Piece) → Represents (record { rows = l.fn.rows; kept = l.fn.kept }) came
    → lost l.fn.rows came
    ≡ first_row_fault (lost_at l.fn.rows came) (range_with_len l.place (length l.fn.rows - l.place))
