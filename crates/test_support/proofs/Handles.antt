-- The row that a tracee's handle acts for.
use Rattle.std.proofs.Common.{refl, ◌≡◌, ◌∷◌, ◌==◌, [], ℕ, true, false, List, ◌∙◌, ap, eq-eqb}
use Rattle.std.proofs.lemmas.Bool.{or_left}
use Rattle.stop_table.specs.View.{is_among}

pub own_row : (row : ℕ) (rows : List ℕ) → rows ≡ row ∷ [] → is_among row rows ≡ true
own_row row rows is = ap (is_among row) is ∙ or_left (row == row) false (eq-eqb row row refl)
