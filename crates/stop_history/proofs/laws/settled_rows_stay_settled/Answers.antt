-- The law is a lemma on plain lists.
use Rattle.stop_history.proofs.Settled.{settled_stays}
use Rattle.stop_history.proofs.laws.settled_rows_stay_settled.Goals as goal

pub returns : goal.returns
returns c = settled_stays
