-- One more step is counted; where no step is left, all are.
use Rattle.std.proofs.Common.{◌≡◌, ◌∙◌, ◌+◌, ◌++◌, ◌∷◌, add-one, ap, arith, drop, drop-cons, length, suc, sym}
use Rattle.std.proofs.Math.ListN.{drop_of_length-le}
use Rattle.std.proofs.lemmas.List.{length-append}
use Rattle.trace_script.specs.Births.{born_by, children_of}
use Rattle.trace_script.specs.Kept.{step_of, steps_of}
use Rattle.trace_script.proofs.machine.births.births_from.Goals as goal

pub loop-at-preserved : goal.loop-at-preserved
loop-at-preserved g c =
    let all = c.args.steps.now in
    let at = c.loop-at.at in
    let births = c.loop-at.births in record {
      few = omega (arith, c.loop-at.invariant.few, c.births_of-births.ensures.few);
      counted = λ filled.
          let step = step_of filled c.index-steps-at.result in
          let rest = born_by (steps_of filled (drop (at + 1) all)) in
          let next : drop at all ≡ c.index-steps-at.result ∷ drop (at + 1) all =
          drop-cons all at c.index-steps-at.result c.loop-at-test.true
          ∙ ap (λ x. x ∷ drop (suc at) all) (sym c.index-steps-at.is)
          ∙ ap (λ j. c.index-steps-at.result ∷ drop j all) (sym (add-one at)) in
          let here : length (born_by (steps_of filled (drop at all))) ≡ length (children_of step ++ rest) =
          ap (λ steps. length (born_by (steps_of filled steps))) next in
          omega (
            arith,
            here,
            length-append (children_of step) rest,
            c.births_of-births.ensures.births filled,
            c.loop-at.invariant.counted filled,
          );
    }

pub returns : goal.returns
returns g c filled =
    let none = drop_of_length-le c.args.steps.now c.loop-at-test.false in
    let left = ap (λ steps. length (born_by (steps_of filled steps))) none in
    omega (arith, left, c.loop-at.invariant.counted filled)
