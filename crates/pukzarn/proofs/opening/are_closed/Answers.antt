-- One more handle is closed, or one is open.
use Rattle.std.proofs.Common.{refl, ◌≡◌, ◌∙◌, Option, None, Some, is_some, false, sym, subst, arith}
use Rattle.std.proofs.lemmas.Option.{slice_get_within}
use Rattle.pukzarn.specs.Call.{IsHandleClosed}
use Rattle.pukzarn.proofs.Filling.{seen_front}
use Rattle.pukzarn.proofs.opening.are_closed.Goals as goal

none_here : {X : Type 0} (o : Option X) → is_some o ≡ false → o ≡ None
none_here None is = refl
none_here (Some x) is = cc

pub loop-at-init : goal.loop-at-init
loop-at-init c = λ k x low is. let none : ⊥ = omega (arith, low) in absurd none

pub loop-at-preserved : goal.loop-at-preserved
loop-at-preserved c =
    let closed = none_here c.index-handles-at.result.slot.value (sym c.is_open.ensures ∙ c.if-is_open.false) in
    seen_front IsHandleClosed c.args.handles.now c.loop-at.at c.index-handles-at.result
    (subst IsHandleClosed c.index-handles-at.is closed) c.loop-at.invariant

pub returns : goal.returns
returns c = λ k x is.
    c.loop-at.invariant k x (omega (arith, slice_get_within c.args.handles.now k x is, c.loop-at-test.false)) is
