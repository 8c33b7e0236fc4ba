-- One row more, and none left.
use Rattle.std.proofs.Common.{◌≡◌, ◌++◌, ◌+◌, ◌<◌, ◌≤◌, ◌∷◌, ◌∙◌, ℕ, List, add-one, ap, append-nil, append_assoc, drop}
use Rattle.std.proofs.Common.{drop-cons, drop_of_length-le, get_or, length, string_bytes, sym}
use Rattle.stop_history.specs.declared.roster.Row.{Row}
use Rattle.text_lines.specs.Lines.{line_text}
use Rattle.replay_files.specs.Spelling.{row_words, rows_text}
use Rattle.outcome_text.proofs.replay_text.write_rows.Goals as goal

one_row_more : (rows : List Row) (i : ℕ) (d : Row) (out new : List ℕ) → i < length rows
    → new ≡ out ++ line_text (row_words (get_or rows i d))
    → new ++ rows_text (drop (i + 1) rows) ≡ out ++ rows_text (drop i rows)
one_row_more rows i d out new within wrote =
    let row : Row = get_or rows i d in
    let rest : List ℕ = rows_text (drop (i + 1) rows) in
    let cut : drop i rows ≡ row ∷ drop (i + 1) rows = drop-cons rows i d within
    ∙ ap (λ k. row ∷ drop k rows) (sym (add-one i)) in
    ap (λ n. n ++ rest) wrote ∙ append_assoc out (line_text (row_words row)) rest
    ∙ ap (λ rs. out ++ rows_text rs) (sym cut)

no_row_left : (rows : List Row) (i : ℕ) (out : List ℕ) → length rows ≤ i → out ++ rows_text (drop i rows) ≡ out
no_row_left rows i out past = ap (λ rs. out ++ rows_text rs) (drop_of_length-le rows past) ∙ append-nil out

pub loop-row-preserved : goal.loop-row-preserved
loop-row-preserved g c =
    one_row_more c.args.rows.now c.loop-row.row-index _ (string_bytes c.loop-row.out)
    (string_bytes c.write_row.new.out) c.loop-row-test.true c.in_ok-write_row.ensures
    ∙ c.loop-row.invariant

pub returns : goal.returns
returns g c =
    sym (no_row_left c.args.rows.now c.loop-row.row-index (string_bytes c.loop-row.out) c.loop-row-test.false)
    ∙ c.loop-row.invariant
