-- The law is a lemma on plain lists.
use Rattle.stop_history.proofs.Words.{same_word}
use Rattle.stop_history.proofs.laws.words_are_one_to_one.Goals as goal

pub returns : goal.returns
returns c = same_word
