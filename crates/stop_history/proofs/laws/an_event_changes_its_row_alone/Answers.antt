-- The law is a lemma on plain lists.
use Rattle.stop_history.proofs.AtomicSteps.{other_word, own_word}
use Rattle.stop_history.proofs.laws.an_event_changes_its_row_alone.Goals as goal

pub returns-clause-own : goal.returns-clause-own
returns-clause-own c = own_word

pub returns-clause-other : goal.returns-clause-other
returns-clause-other c = other_word
