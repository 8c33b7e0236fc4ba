-- The place of the first word of a kind, in a list that is mapped or cut off.
use Rattle.std.proofs.Common.{refl, ◌≡◌, ◌+◌, ◌≤◌, ◌∷◌, [], ℕ, zero, suc, Bool, true, false, not, List, length, take}
use Rattle.std.proofs.Common.{map, min, cond, position, ap, ◌∙◌, arith, Some, None, nat_lt}
use Rattle.std.specs.List.{position_or_len}
use Rattle.std.proofs.lemmas.List.{length-map}

module _ {X : Type 0} (p : X → Bool) where
  -- of a mapped list
  first_of_map : {Y : Type 0} (f : Y → X) (ys : List Y)
      → position_or_len p (map f ys) ≡ position_or_len (λ y. p (f y)) ys
  first_of_map f [] = refl
  first_of_map f (y ∷ ys) = ap (λ n. cond (not (p (f y))) (1 + n) 0) (first_of_map f ys)

  pub position_of_map : {Y : Type 0} (f : Y → X) (ys : List Y) → position p (map f ys) ≡ position (λ y. p (f y)) ys
  position_of_map f ys =
      ap (λ n. cond (nat_lt n (length (map f ys))) (Some n) None) (first_of_map f ys)
      ∙ ap (λ n. cond (nat_lt (position_or_len (λ y. p (f y)) ys) n) (Some (position_or_len (λ y. p (f y)) ys)) None)
      (length-map ys f)

  more_or_none : (b : Bool) (m n : ℕ) → cond b (1 + min m n) 0 ≡ min (suc m) (cond b (1 + n) 0)
  more_or_none true m n = omega arith
  more_or_none false m n = omega arith

  -- of a list that is cut off
  pub first_of_take : (m : ℕ) (xs : List X) → position_or_len p (take m xs) ≡ min m (position_or_len p xs)
  first_of_take zero xs = omega arith
  first_of_take (suc m) [] = omega arith
  first_of_take (suc m) (x ∷ xs) =
      ap (λ n. cond (not (p x)) (1 + n) 0) (first_of_take m xs)
      ∙ more_or_none (not (p x)) m (position_or_len p xs)

  pub first_within : (xs : List X) → position_or_len p xs ≤ length xs
  first_within [] = omega arith
  first_within (x ∷ xs) = let more = first_within xs in
      elim (not (p x)) as (λ b. cond b (1 + position_or_len p xs) 0 ≤ suc (length xs)) [
        | true ↦ omega arith
        | false ↦ omega arith
      ]
