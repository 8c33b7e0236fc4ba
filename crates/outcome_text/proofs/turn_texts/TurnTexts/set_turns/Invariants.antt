-- The turns so far are written.
use Rattle.std.proofs.Common.{◌≡◌, take}
use Rattle.outcome_text.specs.TurnTexts.{AreTextsOf, text_source, turns_written}
use Rattle.outcome_text.proofs.turn_texts.TurnTexts.set_turns.Given as goal

abbrev pub invariant-loop-at : goal.invariant-loop-at
invariant-loop-at g l = record {
  texts : AreTextsOf (text_source l.program) l.self;
  turns : turns_written l.self.turns ≡ take l.at l.turns;
}
