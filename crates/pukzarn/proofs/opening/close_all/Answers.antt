-- One more handle is closed.
use Rattle.std.proofs.Common.{arith}
use Rattle.std.proofs.lemmas.Option.{slice_get_within}
use Rattle.pukzarn.specs.Call.{IsHandleClosed}
use Rattle.pukzarn.proofs.Filling.{put_front}
use Rattle.pukzarn.proofs.opening.close_all.Goals as goal

pub loop-at-init : goal.loop-at-init
loop-at-init c = λ k x low is. let none : ⊥ = omega (arith, low) in absurd none

pub loop-at-preserved : goal.loop-at-preserved
loop-at-preserved c =
    put_front IsHandleClosed c.loop-at.handles c.loop-at.at _ c.take.ensures.closed c.loop-at.invariant

pub returns : goal.returns
returns c = λ k x is.
    c.loop-at.invariant k x (omega (arith, slice_get_within c.loop-at.handles k x is, c.loop-at-test.false)) is
