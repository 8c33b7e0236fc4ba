-- Lists of states that compare as equal are the same.
use Rattle.std.proofs.Common.{rules, refl, ◌≡◌, ◌∷◌, ◌&&◌, [], Bool, true, false, List}
use Rattle.std.specs.Cmp.Lexicographic.{pointwise}
use Rattle.stop_history.specs.declared.state.State.{State}
use Rattle.stop_history.specs.contracts.state.StatePartialEq.TheImpl as state_impl

both : (a b : Bool) → (a && b) ≡ true → (a ≡ true) × (b ≡ true)
both true true is = (refl, refl)
both true false is = cc
both false b is = cc

state_tells : (x y : State) → state_impl.eq-value.it x y ≡ true → x ≡ y
state_tells x y is = search rules

pub states_tell : (xs ys : List State) → pointwise state_impl.eq-value.it xs ys ≡ true → xs ≡ ys
states_tell [] [] is = refl
states_tell [] (y ∷ ys) is = cc
states_tell (x ∷ xs) [] is = cc
states_tell (x ∷ xs) (y ∷ ys) is =
    let parts = both (state_impl.eq-value.it x y) (pointwise state_impl.eq-value.it xs ys) is in
    let first = state_tells x y parts.0 in
    let rest = states_tell xs ys parts.1 in
    λ i. first i ∷ rest i
