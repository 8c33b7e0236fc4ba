-- The first place that passes a test, in a list and in the list that follows it.
use Rattle.std.proofs.Common.{[], ◌∷◌, ◌++◌, ◌≡◌, ℕ, ◌+◌, ◌<◌, Bool, true, false, cond}
use Rattle.std.proofs.Common.{Some, None, List, length, position, refl, sym, ap, ◌∙◌, arith}
use Rattle.std.specs.List.{position_from}
use Rattle.std.proofs.lemmas.Iterator.Adapters.{position_from-zero}

module _ (test : ℕ → Bool) where
  step : (x : ℕ) (xs : List ℕ) (i : ℕ) (b : Bool) → test x ≡ b
      → position_from test i (x ∷ xs) ≡ cond b (Some i) (position_from test (i + 1) xs)
  step x xs i b is = rw is refl

  pub none_before : (a b : List ℕ) (i : ℕ) → position_from test i a ≡ None
      → position_from test i (a ++ b) ≡ position_from test (i + length a) b
  none_before [] b i none = let here : i ≡ i + 0 = omega arith in ap (λ (k : ℕ). position_from test k b) here
  none_before (x ∷ a) b i none = elim (test x) as (λ t. test x ≡ t → position_from test i (x ∷ (a ++ b))
      ≡ position_from test (i + length (x ∷ a)) b) [
        | true ↦ λ is. let here = step x a i true is in cc
        | false ↦ λ is.
            let on : i + 1 + length a ≡ i + length (x ∷ a) = omega arith in
            step x (a ++ b) i false is ∙ none_before a b (i + 1) (sym (step x a i false is) ∙ none)
            ∙ ap (λ (k : ℕ). position_from test k b) on
      ] refl

  pub some_before : (a b : List ℕ) (i k : ℕ) → position_from test i a ≡ Some k
      → position_from test i (a ++ b) ≡ Some k
  some_before [] b i k some = cc
  some_before (x ∷ a) b i k some = elim (test x) as (λ t. test x ≡ t
      → position_from test i (x ∷ (a ++ b)) ≡ Some k) [
        | true ↦ λ is. step x (a ++ b) i true is ∙ sym (step x a i true is) ∙ some
        | false ↦ λ is.
            step x (a ++ b) i false is ∙ some_before a b (i + 1) k (sym (step x a i false is) ∙ some)
      ] refl

  -- a place is within the list
  pub place_within : (xs : List ℕ) (i k : ℕ) → position_from test i xs ≡ Some k → k < i + length xs
  place_within [] i k some = cc
  place_within (x ∷ xs) i k some = elim (test x) as (λ t. test x ≡ t → k < i + length (x ∷ xs)) [
    | true ↦ λ is. let here = step x xs i true is in let same : Some i ≡ Some k = cc in
        let eq : i ≡ k = cc in omega arith
    | false ↦ λ is.
        let later = place_within xs (i + 1) k (sym (step x xs i false is) ∙ some) in omega arith
  ] refl

  -- counting from a later number
  pub count_from : (xs : List ℕ) (i j k : ℕ) → position_from test j xs ≡ Some k
      → position_from test (i + j) xs ≡ Some (i + k)
  count_from [] i j k some = cc
  count_from (x ∷ xs) i j k some = elim (test x) as (λ t. test x ≡ t
      → position_from test (i + j) (x ∷ xs) ≡ Some (i + k)) [
        | true ↦ λ is. let here = step x xs j true is in let same : j ≡ k = cc in
            step x xs (i + j) true is ∙ ap (λ (n : ℕ). Some (i + n)) same
        | false ↦ λ is.
            let on : i + j + 1 ≡ i + (j + 1) = omega arith in
            step x xs (i + j) false is ∙ ap (λ (n : ℕ). position_from test n xs) on
            ∙ count_from xs i (j + 1) k (sym (step x xs j false is) ∙ some)
      ] refl

  count_none : (xs : List ℕ) (i j : ℕ) → position_from test j xs ≡ None → position_from test (i + j) xs ≡ None
  count_none [] i j none = refl
  count_none (x ∷ xs) i j none = elim (test x) as (λ t. test x ≡ t → position_from test (i + j) (x ∷ xs) ≡ None) [
    | true ↦ λ is. let here = step x xs j true is in cc
    | false ↦ λ is.
        let on : i + j + 1 ≡ i + (j + 1) = omega arith in
        step x xs (i + j) false is ∙ ap (λ (n : ℕ). position_from test n xs) on
        ∙ count_none xs i (j + 1) (sym (step x xs j false is) ∙ none)
  ] refl

  -- ---- the same with std's place, which counts from 0
  pub from_zero : (xs : List ℕ) → position_from test 0 xs ≡ position test xs
  from_zero xs = sym (position_from-zero test xs)

  pub in_piece : (a b : List ℕ) (seen k : ℕ) → position test a ≡ Some k
      → position_from test seen (a ++ b) ≡ Some (seen + k)
  in_piece a b seen k some =
      let here : seen + 0 ≡ seen = omega arith in
      some_before a b seen (seen + k) (ap (λ (n : ℕ). position_from test n a) (sym here)
      ∙ count_from a seen 0 k (from_zero a ∙ some))

  pub past_piece : (a b : List ℕ) (seen : ℕ) → position test a ≡ None
      → position_from test seen (a ++ b) ≡ position_from test (seen + length a) b
  past_piece a b seen none =
      let here : seen + 0 ≡ seen = omega arith in
      none_before a b seen (ap (λ (n : ℕ). position_from test n a) (sym here)
      ∙ count_none a seen 0 (from_zero a ∙ none))

  pub position_within : (xs : List ℕ) (k : ℕ) → position test xs ≡ Some k → k < length xs
  position_within xs k some = let inside = place_within xs 0 k (from_zero xs ∙ some) in omega arith
