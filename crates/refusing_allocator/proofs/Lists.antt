-- Lists that tests put onto the end of, and take off again.
use Rattle.std.proofs.Common.{refl, ◌≡◌, ◌∷◌, ◌++◌, [], ℕ, zero, suc, List, Some, length, ◌∙◌, ap}
use Rattle.std.specs.List.{slice_get}

pub at_end : {A : Type 0} (xs : List A) (x : A) → slice_get (xs ++ x ∷ []) (length xs) ≡ Some x
at_end [] x = refl
at_end (y ∷ xs) x = at_end xs x

-- the last of a list is found at the end
pub found_last : {A : Type 0} (xs left : List A) (x : A) → xs ≡ left ++ x ∷ [] → slice_get xs (length left) ≡ Some x
found_last xs left x is = ap (λ list. slice_get list (length left)) is ∙ at_end left x

pub in_front : {A : Type 0} (xs ys : List A) (k : ℕ) (x : A) → slice_get xs k ≡ Some x → slice_get (xs ++ ys) k ≡ Some x
in_front [] ys k x at = cc
in_front (y ∷ xs) ys zero x at = at
in_front (y ∷ xs) ys (suc k) x at = in_front xs ys k x at
