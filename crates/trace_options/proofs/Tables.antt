-- Tables whose rows rise, and what a look-up finds in a table.
use Rattle.std.proofs.Common.{◌≡◌, ℕ, Bool, true, false, ◌&&◌, List, [], ◌∷◌, Some, IfSome, cond, find, refl}
use Rattle.std.specs.List.{AllByRecursion}
use Rattle.std.specs.List.Sorted.{IsStrictlyIncreasing, IsStrictlySortedBy}
use Rattle.std.specs.Ordering.{is_lt, nat_cmp}
use Rattle.std.specs.declared.cmp.Ordering.{Ordering}
use Rattle.std.specs.declared.cmp.Ordering.TheVariants.{Less, Equal, Greater}
use Rattle.std.proofs.lemmas.Map.Keys.{IsStrictlyIncreasing-from_sorted}

-- ---- numbers that rise, by a test that computes
abbrev pub is_below : ℕ → List ℕ → Bool
is_below x [] = true
is_below x (y ∷ ys) = is_lt (nat_cmp x y) && is_below x ys

abbrev pub rises : List ℕ → Bool
rises [] = true
rises (x ∷ xs) = is_below x xs && rises xs

both : (a b : Bool) → (a && b) ≡ true → (a ≡ true) × (b ≡ true)
both true b is = (refl, is)
both false b is = (cc, cc)

less : (order : Ordering) → is_lt order ≡ true → order ≡ Less
less Less is = refl
less Equal is = cc
less Greater is = cc

below : (x : ℕ) (ys : List ℕ) → is_below x ys ≡ true → AllByRecursion (λ y. nat_cmp x y ≡ Less) ys
below x [] is = tt
below x (y ∷ ys) is =
    let parts = both (is_lt (nat_cmp x y)) (is_below x ys) is in
    (less (nat_cmp x y) parts.0, below x ys parts.1)

sorted : (xs : List ℕ) → rises xs ≡ true → IsStrictlySortedBy nat_cmp xs
unfolding IsStrictlySortedBy
sorted [] is = tt
sorted (x ∷ xs) is =
    let parts = both (is_below x xs) (rises xs) is in
    (below x xs parts.0, sorted xs parts.1)

pub rising : (xs : List ℕ) → rises xs ≡ true → IsStrictlyIncreasing xs
rising xs is = IsStrictlyIncreasing-from_sorted xs (sorted xs is)

-- ---- what holds of each row holds of the one that is found
pub found : {X : Type 0} (test : X → Bool) (P : X → Type 0) (xs : List X)
    → AllByRecursion P xs → IfSome (find test xs) P
found test P [] all = tt
found test P (x ∷ xs) all = elim (test x) as (λ is. IfSome (cond is (Some x) (find test xs)) P) [
  | true ↦ all.0
  | false ↦ found test P xs all.1
]
