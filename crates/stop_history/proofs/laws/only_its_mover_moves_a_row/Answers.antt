-- The law is a lemma on plain lists.
use Rattle.stop_history.proofs.Longer.{mover, stays, untouched}
use Rattle.stop_history.proofs.laws.only_its_mover_moves_a_row.Goals as goal

pub returns-clause-moved : goal.returns-clause-moved
returns-clause-moved c = mover

pub returns-clause-untouched : goal.returns-clause-untouched
returns-clause-untouched c = untouched

pub returns-clause-word : goal.returns-clause-word
returns-clause-word c = stays
