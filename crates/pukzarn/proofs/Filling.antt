-- Lists that a loop goes over, place by place.
use Rattle.std.proofs.Common.{◌≡◌, ◌<◌, ◌≤◌, ◌+◌, ◌∷◌, [], ℕ, zero, suc, List, Option, Some, ◌∙◌, ap, subst, arith}
use Rattle.std.proofs.Common.{set, get_or}
use Rattle.std.proofs.lemmas.List.{set-get_or}
use Rattle.std.specs.List.{slice_get}
use Rattle.std.specs.Option.{unwrap_or}

some_same : {X : Type 0} (x y : X) → Some x ≡ Some y → x ≡ y
some_same x y is = ap (λ (o : Option _). unwrap_or o x) is

-- one more from the front
pub put_front : {X : Type 0} (P : X → Type 0) (xs : List X) (at : ℕ) (y : X) → P y
    → ((k : ℕ) (x : X) → k < at → slice_get xs k ≡ Some x → P x)
    → (k : ℕ) (x : X) → k < at + 1 → slice_get (set xs at y) k ≡ Some x → P x
put_front P [] at y holds old k x low is = cc
put_front P (z ∷ xs) zero y holds old zero x low is = subst P (some_same y x is) holds
put_front P (z ∷ xs) zero y holds old (suc k) x low is = let none : ⊥ = omega (arith, low) in absurd none
put_front P (z ∷ xs) (suc at) y holds old zero x low is = old zero x (omega arith) is
put_front P (z ∷ xs) (suc at) y holds old (suc k) x low is =
    put_front P xs at y holds (λ j v l s. old (suc j) v (omega (arith, l)) s) k x (omega (arith, low)) is

-- the same where each is only looked at
pub seen_front : {X : Type 0} (P : X → Type 0) (xs : List X) (at : ℕ) (d : X) → P (get_or xs at d)
    → ((k : ℕ) (x : X) → k < at → slice_get xs k ≡ Some x → P x)
    → (k : ℕ) (x : X) → k < at + 1 → slice_get xs k ≡ Some x → P x
seen_front P xs at d holds old k x low is =
    put_front P xs at (get_or xs at d) holds old k x low (ap (λ (l : List _). slice_get l k) (set-get_or xs at d) ∙ is)

-- one more from the back
pub put_back : {X : Type 0} (P : ℕ → X → Type 0) (xs : List X) (at : ℕ) (y : X) → P at y
    → ((k : ℕ) (x : X) → at + 1 ≤ k → slice_get xs k ≡ Some x → P k x)
    → (k : ℕ) (x : X) → at ≤ k → slice_get (set xs at y) k ≡ Some x → P k x
put_back P [] at y holds old k x high is = cc
put_back P (z ∷ xs) zero y holds old zero x high is = subst (P zero) (some_same y x is) holds
put_back P (z ∷ xs) zero y holds old (suc k) x high is = old (suc k) x (omega arith) is
put_back P (z ∷ xs) (suc at) y holds old zero x high is = let none : ⊥ = omega (arith, high) in absurd none
put_back P (z ∷ xs) (suc at) y holds old (suc k) x high is =
    put_back (λ j. P (suc j)) xs at y holds (λ j v h s. old (suc j) v (omega (arith, h)) s) k x (omega (arith, high)) is
