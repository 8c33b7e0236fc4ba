-- The law is a lemma on plain lists.
use Rattle.stop_history.proofs.Longer.{taken_or_same}
use Rattle.stop_history.proofs.laws.a_waiting_row_is_as_it_was_or_was_claimed.Goals as goal

pub returns : goal.returns
returns c = taken_or_same
