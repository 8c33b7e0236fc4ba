-- The next turn is written.
use Rattle.std.proofs.Common.{◌≤◌, ◌++◌, ◌∷◌, [], ◌∙◌, ap, get_or, subst, sym}
use Rattle.std.proofs.lemmas.List.{length-map, take-map, take_all, take_more}
use Rattle.outcome_text.specs.declared.turn_texts.WrittenTurn.{WrittenTurn}
use Rattle.outcome_text.specs.TurnTexts.{text_source, turns_written}
use Rattle.outcome_text.proofs.turn_texts.TurnTexts.set_turns.Goals as goal

pub keep-requires-clause-count : goal.keep-requires-clause-count
keep-requires-clause-count g c =
    subst (λ n. c.args.same ≤ n) (length-map c.args.self.now.turns (λ (written : WrittenTurn). written.turn))
    c.requires.same.first

pub loop-at-init : goal.loop-at-init
loop-at-init g c =
    record {
      texts = c.keep.ensures.texts (text_source c.args.program.now) c.requires.texts;
      turns = ap turns_written c.keep.ensures.turns
          ∙ sym (take-map (λ (written : WrittenTurn). written.turn) c.args.same c.args.self.now.turns)
          ∙ c.requires.same.same;
    }

pub loop-at-preserved : goal.loop-at-preserved
loop-at-preserved g c =
    let turns = c.args.turns.now in
    let at = c.loop-at.at in
    let turn = get_or turns at _ in
    record {
      texts = c.in_ok-add.ensures.texts;
      turns = c.in_ok-add.ensures.turns ∙ ap (λ log. log ++ turn ∷ []) c.loop-at.invariant.turns
          ∙ sym (take_more turns at _ c.loop-at-test.true);
    }

pub returns-clause-turns : goal.returns-clause-turns
returns-clause-turns g c = c.loop-at.invariant.turns ∙ take_all c.loop-at.at c.args.turns.now c.loop-at-test.false
