-- A loop over a list that has yielded its front: the next item follows it.
use Rattle.std.proofs.Common.{◌≡◌, ◌<◌, ◌++◌, ◌∷◌, ℕ, suc, List, length, take, drop, get_or, ◌∙◌, sym, ap, subst}
use Rattle.std.specs.List.{All}
use Rattle.std.proofs.Math.Seq.{drop-cons}
use Rattle.std.proofs.lemmas.List.{map-id, take-append-drop}
use Rattle.std.proofs.Common.{map}

-- what holds of all holds of the next item
pub next_holds : {X : Type 0} (P : X → Type 0) (all : List X) (n : ℕ) (x : X) → All P all
    → (n < length all) × (x ≡ get_or all n x) → P x
next_holds P all n x each next = subst P (sym next.1) (each n x next.0)

pub split_next : {X : Type 0} (yielded all : List X) (x : X) → map (λ y. y) yielded ≡ take (length yielded) all
    → (length yielded < length all) × (x ≡ get_or all (length yielded) x)
    → all ≡ yielded ++ x ∷ drop (suc (length yielded)) all
split_next yielded all x so_far next =
    let n = length yielded in
    sym (take-append-drop n all)
    ∙ ap (λ xs. xs ++ drop n all) (sym so_far ∙ map-id yielded)
    ∙ ap (λ xs. yielded ++ xs)
    (drop-cons all n x next.0 ∙ ap (λ y. y ∷ drop (suc n) all) (sym next.1))
