-- The law is a lemma on plain lists.
use Rattle.stop_history.proofs.LegalWords.{legal_word}
use Rattle.stop_history.proofs.laws.words_are_in_range.Goals as goal

pub returns : goal.returns
returns c = legal_word
