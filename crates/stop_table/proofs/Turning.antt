-- Several claims of one tracer: their slots are turned until the one that is wanted is in front, and the rows with
-- them. The rows are kept with the one claimed last at the end.
use Rattle.std.proofs.Common.{refl, ◌≡◌, ◌<◌, ◌+◌, ◌∷◌, ◌++◌, ◌||◌, ◌==◌, [], ℕ, Bool, true, false, List, Option, None}
use Rattle.std.proofs.Common.{◌-◌, IsPermutation, length, drop, take, get_or, reverse, ◌∙◌, sym, ap, subst, arith, eq-eqb, ne_eqb, inl, inr, Some}
use Rattle.std.proofs.lemmas.Bool.{cases_eq, eqb-false, eqb-true, false≢true, lt-ltb, or_from, or_parts}
use Rattle.std.proofs.lemmas.List.{append-nil, append_assoc, drop_more, map_push, take-append-drop}
use Rattle.std.proofs.lemmas.List.{get_or-reverse, length-drop, length-reverse, reverse-append, reverse-reverse, take_more}
use Rattle.std.proofs.lemmas.List.Quantifiers.{position-Some}
use Rattle.std.proofs.lemmas.List.Sorted.{IsPermutation-reverse, list_any-IsPermutation}
use Rattle.std.proofs.Math.Seq.{drop-append_seam, take-append_seam}
use Rattle.std.proofs.lemmas.List.Folds.{list_any-append}
use Rattle.std.specs.List.{position, position_or_len}
use Rattle.atomic_table.specs.Table.{turned}
use Rattle.trace_record.specs.Content.{Content}
use Rattle.stop_table.specs.Place.{place}
use Rattle.stop_table.specs.Tracer.{AreApart, emptied}
use Rattle.stop_table.specs.View.{is_among}

-- ---- slots

out : ℕ → ℕ × Option Content
out row = (place row, None)

-- one turn of the slots of rows of which k have been turned
pub one_turn : (rows : List ℕ) (k : ℕ) (slots : List (ℕ × Option Content)) → k < length rows
    → slots ≡ emptied (drop k rows ++ take k rows) → turned slots ≡ emptied (drop (k + 1) rows ++ take (k + 1) rows)
unfolding out
one_turn rows k slots within is =
    let row : ℕ = get_or rows k 0 in
    ap turned (is ∙ ap (λ l. emptied (l ++ take k rows)) (drop_more rows k 0 within))
    ∙ sym (map_push out (drop (k + 1) rows ++ take k rows) row)
    ∙ ap emptied (append_assoc (drop (k + 1) rows) (take k rows) (row ∷ [])
    ∙ ap (λ l. drop (k + 1) rows ++ l) (sym (take_more rows k 0 within)))

-- ---- rows

either_order : (a b : Bool) → (a || b) ≡ (b || a)
either_order true true = refl
either_order true false = refl
either_order false true = refl
either_order false false = refl

among_swapped : (row : ℕ) (front back : List ℕ) → is_among row (front ++ back) ≡ is_among row (back ++ front)
among_swapped row front back =
    list_any-append (λ n. row == n) front back
    ∙ either_order (is_among row front) (is_among row back)
    ∙ sym (list_any-append (λ n. row == n) back front)

-- a turn keeps the members
pub among_turned : (row : ℕ) (rows : List ℕ) (k : ℕ) → is_among row (drop k rows ++ take k rows) ≡ is_among row rows
among_turned row rows k =
    among_swapped row (drop k rows) (take k rows) ∙ ap (is_among row) (take-append-drop k rows)

apart_behind : (row : ℕ) (rows : List ℕ) → is_among row rows ≡ false → AreApart rows → AreApart (rows ++ row ∷ [])
apart_behind row [] other apart = (refl, tt)
apart_behind row (first ∷ rows) other apart =
    let parts = or_parts (row == first) (is_among row rows) other in
    let differs : (first == row) ≡ false = ne_eqb first row (λ same. eqb-false row first parts.0 (sym same)) in (
      list_any-append (λ n. first == n) rows (row ∷ [])
          ∙ or_from (is_among first rows) ((first == row) || false) apart.0 (or_from (first == row) false differs refl),
      apart_behind row rows parts.1 apart.1,
    )

apart_swapped : (front back : List ℕ) → AreApart (front ++ back) → AreApart (back ++ front)
apart_swapped [] back apart = subst AreApart (sym (append-nil back)) apart
apart_swapped (row ∷ front) back apart =
    subst AreApart (append_assoc back (row ∷ []) front)
    (apart_swapped front (back ++ row ∷ [])
    (subst AreApart (append_assoc front back (row ∷ [])) (apart_behind row (front ++ back) apart.0 apart.1)))

-- as many turns as there are rows before a row bring it to the front
pub turned_to : (row : ℕ) (rows : List ℕ) (k : ℕ) → k < length rows → get_or rows k 0 ≡ row
    → (others : List ℕ) × (drop k rows ++ take k rows ≡ row ∷ others)
turned_to row rows k within is =
    let others = drop (k + 1) rows ++ take k rows in
    (others, ap (λ l. l ++ take k rows) (drop_more rows k 0 within) ∙ ap (λ r. r ∷ others) is)

-- a turn keeps the rows apart
pub apart_turned : (rows : List ℕ) (k : ℕ) → AreApart rows → AreApart (drop k rows ++ take k rows)
apart_turned rows k apart =
    apart_swapped (take k rows) (drop k rows) (subst AreApart (sym (take-append-drop k rows)) apart)

row_below : (row : ℕ) (rows : List ℕ) → is_among row rows ≡ true → position_or_len (λ n. n == row) rows < length rows
row_below row [] among = absurd (false≢true among)
row_below row (first ∷ rows) among =
    elim (cases_eq first row) [
      | inl same ↦ rw (eq-eqb first row same) (omega arith)
      | inr other ↦
          (let later : is_among row rows ≡ true =
          rw (ne_eqb row first (λ same. other (sym same))) at among in
          let below = row_below row rows later in
          rw (ne_eqb first row other) (omega arith))
    ]

-- a row among others has a place there
pub has_place : (row : ℕ) (rows : List ℕ) → is_among row rows ≡ true → position (λ n. n == row) rows ≡ None → ⊥
has_place row rows among none =
    let found : position (λ n. n == row) rows ≡ Some (position_or_len (λ n. n == row) rows) =
    rw (lt-ltb _ _ (row_below row rows among)) in cc

-- ---- rows that are kept the other way round

pub among_reversed : (row : ℕ) (rows : List ℕ) → is_among row (reverse rows) ≡ is_among row rows
among_reversed row rows =
    list_any-IsPermutation (λ n. row == n) (reverse rows) rows
    (subst (IsPermutation (reverse rows)) (reverse-reverse rows) (IsPermutation-reverse (reverse rows)))

-- rows that are kept the other way round are turned backwards
pub turned_behind : (rows : List ℕ) (turns : ℕ) → turns < length rows
    → reverse (drop (length rows - turns) rows ++ take (length rows - turns) rows)
    ≡ drop turns (reverse rows) ++ take turns (reverse rows)
turned_behind rows turns within =
    let at = length rows - turns in
    let front = reverse (drop at rows) in
    let back = reverse (take at rows) in
    let whole : reverse rows ≡ front ++ back =
    ap reverse (sym (take-append-drop at rows)) ∙ reverse-append (take at rows) (drop at rows) in
    let long : length front ≡ turns = length-reverse (drop at rows) ∙ length-drop at rows ∙ omega arith in
    let later : drop turns (reverse rows) ≡ back =
    ap (drop turns) whole ∙ ap (λ n. drop n (front ++ back)) (sym long) ∙ drop-append_seam front back in
    let sooner : take turns (reverse rows) ≡ front =
    ap (take turns) whole ∙ ap (λ n. take n (front ++ back)) (sym long) ∙ take-append_seam front back in
    reverse-append (drop at rows) (take at rows)
    ∙ ap (λ l. back ++ l) (sym sooner) ∙ ap (λ l. l ++ take turns (reverse rows)) (sym later)

-- a row at a place stands as far from the other end, once they are the other way round
pub placed : (row : ℕ) (rows : List ℕ) (at : ℕ) → position (λ n. n == row) rows ≡ Some at
    → (length rows - 1 - at < length (reverse rows)) × (get_or (reverse rows) (length rows - 1 - at) 0 ≡ row)
placed row rows at is =
    let found = position-Some (λ n. n == row) rows at 0 is in
    let before = length rows - 1 - at in
    let back : length rows - 1 - before ≡ at = omega (arith, found.0) in (
      omega (arith, found.0, length-reverse rows),
      get_or-reverse rows before 0 (omega (arith, found.0)) ∙ ap (λ n. get_or rows n 0) back ∙ eqb-true (get_or rows at 0) row found.1,
    )
