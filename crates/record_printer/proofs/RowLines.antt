-- The lines of a row are the fold of its stops: both are the lines of the stops that are left.
use Rattle.std.proofs.Common.{◌≡◌, ◌++◌, List, Option, ℕ, [], refl, sym, ap, ◌∙◌}
use Rattle.record_printer.specs.Note.{Note}
use Rattle.record_printer.specs.PrintedRow.{death_line, row_lines}
use Rattle.record_printer.specs.RowFold.{empty_fold, fold_after_all, fold_text}
use Rattle.record_printer.proofs.FoldedLines.{all_folded}
use Rattle.record_printer.proofs.PlacedLines.{lines_found}

pub lines_folded : (notes : List Note) (death : Option (List ℕ))
    → row_lines notes death ≡ fold_text (fold_after_all empty_fold notes) death
unfolding row_lines
lines_folded notes death =
    ap (λ (lines : List ℕ). lines ++ death_line death) (lines_found notes notes [] 0 death refl refl)
    ∙ sym (all_folded death notes)
