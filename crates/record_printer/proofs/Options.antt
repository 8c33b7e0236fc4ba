-- Options that are there, and truth values that hold.
use Rattle.std.proofs.Common.{◌≡◌, ◌||◌, Bool, Some, None, true, false, refl}

pub some_none : {X : Type 0} {x : X} → Some x ≡ None → ⊥
some_none e = cc

pub or_true : (b : Bool) → (b || true) ≡ true
or_true true = refl
or_true false = refl
