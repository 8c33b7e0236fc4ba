-- One turn less each time.
use Rattle.std.proofs.Common.{refl, ◌<◌, ◌≤◌, ◌-◌, ◌∙◌, ap, arith, length, length-take, subst, sym, take, take-take}
use Rattle.std.proofs.lemmas.List.{take_all}
use Rattle.outcome_text.proofs.turn_texts.TurnTexts.keep.Goals as goal

pub turns-init : goal.turns-init
turns-init g c = record { least = c.requires.count; same = refl; texts = λ t are. are }

pub take_back-requires : goal.take_back-requires
take_back-requires g c =
    let texts = c.requires.texts in
    record { texts = (texts.0, c.turns.invariant.texts texts.0 texts.1) }

pub turns-preserved : goal.turns-preserved
turns-preserved g c =
    let turns = c.turns.self.turns in
    let before = length turns - 1 in
    let longer : c.args.count < length turns = subst (λ n. c.args.count < n) (ap length c.written.ensures) c.turns-test.true in
    record {
      least = omega (arith, ap length c.take_back.ensures.turns, length-take before turns, longer);
      same = ap (take c.args.count) c.take_back.ensures.turns
          ∙ take-take c.args.count before turns (omega (arith, longer)) ∙ c.turns.invariant.same;
      texts = λ t are. c.take_back.ensures.texts t (c.turns.invariant.texts t are);
    }

pub turns-smaller : goal.turns-smaller
turns-smaller g c =
    let turns = c.turns.self.turns in
    let longer : c.args.count < length turns = subst (λ n. c.args.count < n) (ap length c.written.ensures) c.turns-test.true in
    omega (arith, ap length c.take_back.ensures.turns, length-take (length turns - 1) turns, longer)

pub returns-clause-turns : goal.returns-clause-turns
returns-clause-turns g c =
    sym (take_all c.args.count c.turns.self.turns (subst (λ n. n ≤ c.args.count) (ap length c.written.ensures) c.turns-test.false))
    ∙ c.turns.invariant.same
