-- One more step is copied.
use Rattle.std.proofs.Common.{◌≡◌, ◌∙◌, ◌+◌, ◌++◌, ◌∷◌, [], add-one, ap, drop, drop-cons, suc, sym}
use Rattle.std.proofs.Math.ListN.{drop_of_length-le}
use Rattle.std.proofs.Math.Seq.{append_snoc}
use Rattle.std.proofs.lemmas.List.{append-nil, map-append}
use Rattle.trace_script.specs.Kept.{step_of, steps_of}
use Rattle.trace_script.proofs.script.copies.copy_steps.Goals as goal

pub loop-step-preserved : goal.loop-step-preserved
loop-step-preserved g c filled =
    let all = c.args.steps.now in
    let i = c.loop-step.step-index in
    let item = c.step-item.result in
    let copies = c.loop-step.copies.items in
    let rest = steps_of filled (drop (i + 1) all) in
    let next : drop i all ≡ item ∷ drop (i + 1) all =
    drop-cons all i item c.loop-step-test.true
    ∙ ap (λ x. x ∷ drop (suc i) all) (sym c.step-item.is)
    ∙ ap (λ j. item ∷ drop j all) (sym (add-one i)) in
    ap (λ steps. steps_of filled steps ++ rest) c.in_ok-push.ensures.items
    ∙ ap (λ steps. steps ++ rest) (map-append (step_of filled) copies (c.in_ok-copy.copy ∷ []))
    ∙ ap (λ x. (steps_of filled copies ++ x ∷ []) ++ rest) (c.in_ok-copy.ensures filled)
    ∙ append_snoc (steps_of filled copies) (step_of filled item) rest
    ∙ ap (λ steps. steps_of filled copies ++ steps_of filled steps) (sym next)
    ∙ c.loop-step.invariant filled

pub returns : goal.returns
returns g c filled =
    let copies = steps_of filled c.loop-step.copies.items in
    sym (append-nil copies)
    ∙ ap (λ rest. copies ++ steps_of filled rest)
    (sym (drop_of_length-le c.args.steps.now c.loop-step-test.false))
    ∙ c.loop-step.invariant filled
