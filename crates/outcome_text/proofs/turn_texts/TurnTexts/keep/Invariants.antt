-- The first turns stay.
use Rattle.std.proofs.Common.{◌≡◌, ◌≤◌, length, take}
use Rattle.outcome_text.specs.TurnTexts.{AreTextsOf, TextSource}
use Rattle.outcome_text.proofs.turn_texts.TurnTexts.keep.Given as goal

abbrev pub invariant-turns : goal.invariant-turns
invariant-turns g l = record {
  least : l.count ≤ length l.self.turns;
  same : take l.count l.self.turns ≡ take l.count l.fn.self.turns;
  texts : (t : TextSource) → AreTextsOf t l.fn.self → AreTextsOf t l.self;
}

abbrev pub decreases-turns : goal.decreases-turns
decreases-turns g l = length l.self.turns
