-- One more handle is filled.
use Rattle.std.proofs.Common.{refl, ap, arith, length}
use Rattle.std.proofs.lemmas.Option.{slice_get_within}
use Rattle.pukzarn.proofs.Cells.{tracer_put}
use Rattle.pukzarn.proofs.opening.fill_tracers.Goals as goal

pub fill_tracer-requires : goal.fill_tracer-requires
fill_tracer-requires c = λ none.
    omega (arith, ap length none, c.loop-filled.invariant.left, c.loop-filled-test.true, c.loop-filled.auto.tracers)

pub loop-filled-init : goal.loop-filled-init
loop-filled-init c = record {
  left = omega (arith, c.requires);
  roster = refl;
  rest = λ table all. all;
  done = λ table all k x high is.
      let none : ⊥ = omega (arith, high, c.requires, slice_get_within c.args.tracers.now k x is) in absurd none;
}

pub loop-filled-preserved : goal.loop-filled-preserved
loop-filled-preserved c =
    tracer_put _ _ _ _ c.loop-filled.filled _ _ c.loop-filled.invariant c.in_ok-fill_tracer.ensures
    (omega (arith, c.loop-filled-test.true, c.loop-filled.auto.tracers)) refl

pub returns : goal.returns
returns c = λ table all k x is.
    c.loop-filled.invariant.done table all k x (omega (
      arith,
      c.loop-filled.invariant.left,
      c.loop-filled-test.false,
      c.loop-filled.auto.tracers,
    )) is
