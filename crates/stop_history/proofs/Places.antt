-- The first place of a list that passes a test, from what `find` says of a front of the list.
use Rattle.std.proofs.Common.{◌≡◌, ◌<◌, ℕ, Bool, true, false, Some, None, List, length, get_or, take, position, find}
use Rattle.std.proofs.Common.{slice_get, arith, ◌∙◌, sym, ap, get_or-take, length-take, min, ltb, inl, inr, lt-ltb}
use Rattle.std.proofs.Common.{cond}
use Rattle.std.specs.List.{position_or_len}
use Rattle.std.proofs.lemmas.Bool.{cases_lt}
use Rattle.std.proofs.lemmas.List.Folds.{find_at}
use Rattle.std.proofs.lemmas.List.Sums.{fails_before_first, passes_at_first, position_or_len_is}
use Rattle.std.proofs.lemmas.Option.{slice_get_within, slice_get-get_or, get_or_from_slice_get}

-- where nothing is found, nothing passes
pub fails_each : {X : Type 0} (p : X → Bool) (xs : List X) (k : ℕ) (d : X) → find p xs ≡ None → k < length xs
    → p (get_or xs k d) ≡ false
fails_each {X} p xs k d none within =
    elim (cases_lt (position_or_len p xs) (length xs)) [
      | inl passed ↦ absurd (let some : slice_get xs (position_or_len p xs)
          ≡ Some (get_or xs (position_or_len p xs) d) = slice_get-get_or xs (position_or_len p xs) d passed in
          let none' : slice_get xs (position_or_len p xs) ≡ None = sym (find_at p xs) ∙ none in cc)
      | inr past ↦ fails_before_first p xs k d (omega arith)
    ]

-- the first place is the one before which nothing passes, and which does
pub first_place : {X : Type 0} (p : X → Bool) (xs : List X) (i : ℕ) (d : X) → i < length xs
    → ((k : ℕ) → k < i → p (get_or xs k d) ≡ false) → p (get_or xs i d) ≡ true → position p xs ≡ Some i
first_place p xs i d within before here =
    let first : position_or_len p xs ≡ i = position_or_len_is p xs i d (omega arith) before (λ _. here) in
    ap (λ n. cond (ltb n (length xs)) (Some n) None) first ∙ rw (lt-ltb i (length xs) within)

-- what a front of a list has is found at its place in the list
pub found_in_front : {X : Type 0} (p : X → Bool) (xs : List X) (i : ℕ) (x d : X) → find p (take i xs) ≡ Some x
    → (k : ℕ) × (k < i) × (k < length xs) × (position p xs ≡ Some k) × (get_or xs k d ≡ x)
found_in_front p xs i x d found =
    let at : slice_get (take i xs) (position_or_len p (take i xs)) ≡ Some x = sym (find_at p (take i xs)) ∙ found in
    let front : position_or_len p (take i xs) < length (take i xs) = slice_get_within (take i xs) _ x at in
    let size : length (take i xs) ≡ min i (length xs) = length-take i xs in (
      position_or_len p (take i xs),
      omega arith,
      omega arith,
      first_place p xs _ d (omega arith)
          (λ k before. sym (ap p (get_or-take i xs k d (omega arith))) ∙ fails_before_first p (take i xs) k d before)
          (sym (ap p (get_or-take i xs _ d (omega arith))) ∙ passes_at_first p (take i xs) d front),
      sym (get_or-take i xs _ d (omega arith)) ∙ get_or_from_slice_get (take i xs) _ x d at,
    )
