-- Lists that handles are put onto the end of.
use Rattle.std.proofs.Common.{◌≡◌, ◌∷◌, ◌++◌, [], List}
use Rattle.std.proofs.lemmas.List.Elements.{All-push, All-same}
use Rattle.std.specs.List.{All}

-- a list with one more, which is so too
pub pushed : {X : Type 0} (P : X → Type 0) (xs ys : List X) (x : X) → ys ≡ xs ++ x ∷ [] → All P xs → P x → All P ys
pushed P xs ys x is all here = All-same P ys (xs ++ x ∷ []) is (All-push P xs x all here)
