-- Lists by place.
use Rattle.std.proofs.Common.{refl, ◌≡◌, ◌≢◌, ◌<◌, ◌≤◌, ◌+◌, ◌++◌, ◌∷◌, ◌⊎◌, [], ℕ, zero, suc, Bool, false, List}
use Rattle.std.proofs.Common.{Option, Some, None, is_some, filter, replicate, set, ◌∙◌, sym, ap, inl, inr, arith, cond}
use Rattle.std.specs.List.{list_any, range_with_len, slice_get}
use Rattle.std.proofs.lemmas.Bool.{cases_Bool, cases_eq}

-- what stands at a place after one place was set
pub set_place : {T : Type 0} (xs : List T) (i j : ℕ) (x y : T) → slice_get (set xs i x) j ≡ Some y
    → ((j ≡ i) × (y ≡ x)) ⊎ ((j ≢ i) × (slice_get xs j ≡ Some y))
set_place [] i j x y is = cc
set_place (z ∷ xs) zero zero x y is = inl (refl, (let same : Some x ≡ Some y = is in cc))
set_place (z ∷ xs) zero (suc j) x y is = inr ((λ same. cc), is)
set_place (z ∷ xs) (suc i) zero x y is = inr ((λ same. cc), is)
set_place (z ∷ xs) (suc i) (suc j) x y is =
    elim (set_place xs i j x y is) [
      | inl at ↦ inl (ap suc at.0, at.1)
      | inr other ↦ inr ((λ same. other.0 (omega arith)), other.1)
    ]

-- what stands at a place of a list of equal items
pub replicate_place : {T : Type 0} (n row : ℕ) (x y : T) → slice_get (replicate n x) row ≡ Some y
    → (row < n) × (y ≡ x)
replicate_place zero row x y is = cc
replicate_place (suc n) zero x y is = (omega arith, (let same : Some x ≡ Some y = is in cc))
replicate_place (suc n) (suc row) x y is =
    let inner = replicate_place n row x y is in (omega arith, inner.1)

-- a list without Some
pub without_some : {T : Type 0} (xs : List (Option T)) → ((row : ℕ) (x : T) → slice_get xs row ≡ Some (Some x) → ⊥)
    → list_any is_some xs ≡ false
without_some [] none = refl
without_some (None ∷ xs) none = without_some xs (λ row x is. none (suc row) x is)
without_some (Some x ∷ xs) none = absurd (none 0 x refl)

pub last_is_none : {T : Type 0} (xs : List (Option T)) (x : T) → list_any is_some (xs ++ Some x ∷ []) ≡ false → ⊥
last_is_none [] x is = cc
last_is_none (None ∷ xs) x is = last_is_none xs x is
last_is_none (Some y ∷ xs) x is = cc

-- a filter that leaves nothing
pub none_in_range : (f : ℕ → Bool) (start count : ℕ) → filter f (range_with_len start count) ≡ [] → (k : ℕ)
    → start ≤ k → k < start + count → f k ≡ false
none_in_range f start zero is k low high = absurd (omega arith)
none_in_range f start (suc count) is k low high =
    elim (cases_Bool (f start)) [
      | inl is_there ↦
          let clash : start ∷ filter f (range_with_len (start + 1) count) ≡ [] =
          ap (λ b. cond b (start ∷ filter f (range_with_len (start + 1) count)) (filter f (range_with_len (start + 1) count)))
          (sym is_there) ∙ is in cc
      | inr is_not ↦
          let rest : filter f (range_with_len (start + 1) count) ≡ [] =
          ap (λ b. cond b (start ∷ filter f (range_with_len (start + 1) count)) (filter f (range_with_len (start + 1) count)))
          (sym is_not) ∙ is in
          elim (cases_eq k start) [
            | inl here ↦ ap f here ∙ is_not
            | inr later ↦ none_in_range f (start + 1) count rest k (omega arith) (omega arith)
          ]
    ]
