-- The law is a lemma on plain lists.
use Rattle.stop_history.proofs.Children.{births_are_born}
use Rattle.stop_history.proofs.laws.births_are_counted.Goals as goal

pub returns : goal.returns
returns c = births_are_born
