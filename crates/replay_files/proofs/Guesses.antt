-- A guess at the row of a thread id.
use Rattle.std.proofs.Common.{◌≡◌, ◌<◌, ℕ, List, Some, length, get_or, subst, ap, sym, ◌∙◌}
use Rattle.stop_history.specs.declared.roster.Row.{Row}
use Rattle.stop_history.specs.Roster.{IsRoster, nobody, row_of}
use Rattle.stop_history.proofs.Rosters.{row_of-tid}

-- the row at a place that has the thread id is the row of it
pub guessed : (rows all : List Row) (i tid : ℕ) (row : Row) → IsRoster rows → all ≡ rows → i < length all
    → row ≡ get_or all i nobody → row.tid ≡ tid → Some i ≡ row_of rows tid
guessed rows all i tid row roster same within is has =
    let here : i < length rows = let P : List Row → Type 0 = λ rows. i < length rows in subst P same within in
    let it : row ≡ get_or rows i nobody = is ∙ ap (λ rows. get_or rows i nobody) same in
    sym (ap (row_of rows) (sym (sym (ap (λ (q : Row). q.tid) it) ∙ has)) ∙ row_of-tid rows roster i here)
