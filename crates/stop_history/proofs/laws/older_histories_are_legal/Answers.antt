-- The law is a lemma on plain lists.
use Rattle.stop_history.proofs.Claims.{legal_end}
use Rattle.stop_history.proofs.laws.older_histories_are_legal.Goals as goal

pub returns : goal.returns
returns c = legal_end
