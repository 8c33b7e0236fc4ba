-- Rows that are spelled are read one by one, in any file that has rows first.
use Rattle.std.proofs.Common.{◌≡◌, ◌+◌, ◌<◌, ◌≤◌, ◌++◌, ◌∷◌, [], ℕ, None, List, Result, Ok, length, arith}
use Rattle.std.proofs.Common.{length-append, append_assoc, append-nil, ap, sym, ◌∙◌}
use Rattle.stop_history.specs.declared.roster.Row.{Row}
use Rattle.stop_history.specs.declared.limits.TheConstants.{MOST_ROWS}
use Rattle.stop_history.specs.Roster.{fault_after, first_fault}
use Rattle.stop_history.proofs.Rosters.{both_none}
use Rattle.text_lines.specs.declared.fault.LineFault.{LineFault}
use Rattle.text_lines.specs.Lines.{line_text, lines_of}
use Rattle.trace_script.specs.declared.cause.Cause.{Cause}
use Rattle.trace_script.specs.Reading.{read_after}
use Rattle.trace_script.proofs.RowsBack.{HasRanges, row_ranges}
use Rattle.trace_script.proofs.SpelledLines.{first_line, read_by}
use Rattle.replay_files.specs.Spelling.{row_words, rows_text}
use Rattle.replay_files.proofs.LinesBack.{row_line_are_words}

module _ {S A : Type 0} (says : S → List (List ℕ) → Result A LineFault) (adds : ℕ → S → A → Result S Cause)
    (of_rows : List Row → S) (of_row : Row → A) where
  -- rows are read after those before them
  pub rows_read : (n : ℕ) (before rows : List Row) (rest : List ℕ)
      → ((before : List Row) (row : Row) → HasRanges row → says (of_rows before) (row_words row) ≡ Ok (of_row row))
      → ((n : ℕ) (before : List Row) (row : Row) → length before < MOST_ROWS → fault_after before row ≡ None
      → adds n (of_rows before) (of_row row) ≡ Ok (of_rows (before ++ row ∷ [])))
      → first_fault before rows ≡ None → length before + length rows ≤ MOST_ROWS
      → (m : ℕ) × (read_after (read_by says adds) n (of_rows before) (lines_of (rows_text rows ++ rest))
      ≡ read_after (read_by says adds) m (of_rows (before ++ rows)) (lines_of rest))
  rows_read n before [] rest said takes fine few =
      (n, ap (λ rows. read_after (read_by says adds) n (of_rows rows) (lines_of rest)) (sym (append-nil before)))
  rows_read n before (row ∷ rows) rest said takes fine few =
      let parts = both_none (fault_after before row) (first_fault (before ++ row ∷ []) rows) fine in
      let has = row_ranges before row parts.0 in
      let size = length-append before (row ∷ []) in
      let later = rows_read (n + 1) (before ++ row ∷ []) rows rest said takes parts.1 (omega arith) in (
        later.0,
        ap (λ text. read_after (read_by says adds) n (of_rows before) (lines_of text))
            (append_assoc (line_text (row_words row)) (rows_text rows) rest)
            ∙ first_line says adds n (of_rows before) (of_rows (before ++ row ∷ [])) (row_words row) (of_row row)
            (rows_text rows ++ rest) (row_line_are_words row has) (said before row has)
            (takes n before row (omega arith) parts.0)
            ∙ later.1
            ∙ ap (λ rows. read_after (read_by says adds) later.0 (of_rows rows) (lines_of rest))
            (append_assoc before (row ∷ []) rows),
      )
