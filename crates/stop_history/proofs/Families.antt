-- What each row of a roster is to the rows before it stays the same while rows are added.
use Rattle.std.proofs.Common.{◌≡◌, ◌+◌, ◌<◌, ◌++◌, ◌∷◌, ◌∙◌, [], ℕ, Some, None, List, length, arith, sym}
use Rattle.std.proofs.Common.{ap, inl, inr, set, slice_get, take, cond, get_or, length-append}
use Rattle.std.proofs.lemmas.Bool.{cases_Bool, cases_order}
use Rattle.std.proofs.lemmas.List.{get_or-set_other, get_or-set_same, get_or_append_left, length-set, take-append-le}
use Rattle.std.proofs.lemmas.Option.{slice_get-get_or}
use Rattle.stop_history.specs.declared.roster.Row.{Row}
use Rattle.stop_history.specs.declared.roster.families.Family.{Family}
use Rattle.stop_history.specs.Roster.{HasFamilies, IsRoster, family_of, is_root, nobody, parent_of, rank_of, row_at, row_of}
use Rattle.stop_history.proofs.Rosters.{has_parent, parent_of-Some, row_of-tid}

-- a row's parent is the same with more rows behind it
parent_stays : (rows more : List Row) → IsRoster rows → IsRoster (rows ++ more) → (row : ℕ) → row < length rows
    → parent_of (rows ++ more) row ≡ parent_of rows row
parent_stays rows more roster longer row within =
    let same : row_at (rows ++ more) row ≡ row_at rows row = get_or_append_left rows more nobody row within in
    elim (cases_Bool (is_root (row_at rows row))) [
      | inl root ↦
          let here : parent_of rows row ≡ None = rw root in
          let there : parent_of (rows ++ more) row ≡ None = rw (same, root) in there ∙ sym here
      | inr child ↦
          let found = has_parent rows roster row within child in
          let known = parent_of-Some rows roster row found.0 within found.1 in
          let earlier : found.0 < length rows = omega (arith, known.before) in
          let long : length (rows ++ more) ≡ length rows + length more = length-append rows more in
          let same_parent : row_at (rows ++ more) found.0
          ≡ row_at rows found.0 = get_or_append_left rows more nobody found.0 earlier in
          let its_tid : (row_at (rows ++ more) found.0).tid
          ≡ (row_at (rows ++ more) row).parent = ap (λ (q : Row). q.tid) same_parent ∙ known.tid
          ∙ sym (ap (λ (q : Row). q.parent) same) in
          let place : row_of (rows ++ more) (row_at (rows ++ more) row).parent ≡ Some found.0 =
          ap (row_of (rows ++ more)) (sym its_tid) ∙ row_of-tid (rows ++ more) longer found.0 (omega arith) in
          let there : parent_of (rows ++ more) row ≡ Some found.0 =
          ap (λ (q : Row). cond (is_root q) None (row_of (rows ++ more) (row_at (rows ++ more) row).parent)) same
          ∙ ap (λ b. cond b None (row_of (rows ++ more) (row_at (rows ++ more) row).parent)) child ∙ place in
          there ∙ sym found.1
    ]

rank_stays : (rows more : List Row) (row : ℕ) → row < length rows → rank_of (rows ++ more) row ≡ rank_of rows row
rank_stays rows more row within =
    let same : row_at (rows ++ more) row ≡ row_at rows row = get_or_append_left rows more nobody row within in
    let front : take row (rows ++ more) ≡ take row rows = take-append-le row rows more (omega arith) in
    rw (same, front)

family_stays : (rows more : List Row) → IsRoster rows → IsRoster (rows ++ more) → (row : ℕ) → row < length rows
    → family_of (rows ++ more) row ≡ family_of rows row
family_stays rows more roster longer row within =
    rw (parent_stays rows more roster longer row within, rank_stays rows more row within)

-- what the rows before `at` are stands at their places, and then also what the row there is
pub one_more_place : (rows : List Row) (families : List Family) (at : ℕ) → at < length families
    → ((row : ℕ) → row < at → slice_get families row ≡ Some (family_of rows row))
    → (row : ℕ) → row < at + 1 → slice_get (set families at (family_of rows at)) row ≡ Some (family_of rows row)
one_more_place rows families at room has row within =
    let new : Family = family_of rows at in
    let size : length (set families at new) ≡ length families = length-set families at new in
    let there : slice_get (set families at new) row
    ≡ Some (get_or (set families at new) row new) = slice_get-get_or _ row new (omega arith) in
    elim (cases_order row at) [
      | inl last ↦ there ∙ ap Some (ap (λ k. get_or (set families at new) k new) last
          ∙ get_or-set_same families at new new room ∙ ap (family_of rows) (sym last))
      | inr (inl earlier) ↦
          let other : row ≡ at → ⊥ = λ e. omega (arith, e, earlier) in
          there ∙ ap Some (get_or-set_other families at row new new other)
          ∙ sym (slice_get-get_or families row new (omega arith)) ∙ has row earlier
      | inr (inr later) ↦ absurd (omega arith)
    ]

-- the families of a roster, and behind them that of one row more
pub one_more_family : (rows : List Row) (row : Row) (families : List Family) → IsRoster rows
    → IsRoster (rows ++ row ∷ []) → length rows < length families → HasFamilies rows families
    → HasFamilies (rows ++ row ∷ []) (set families (length rows) (family_of (rows ++ row ∷ []) (length rows)))
one_more_family rows row families roster longer room has = λ at within.
    let more = rows ++ row ∷ [] in
    let long : length more ≡ length rows + 1 = length-append rows (row ∷ []) in
    one_more_place more families (length rows) room
    (λ other earlier.
    has other earlier ∙ ap Some (sym (family_stays rows (row ∷ []) roster longer other earlier)))
    at (omega arith)
