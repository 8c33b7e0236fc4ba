-- The law is a lemma on plain lists.
use Rattle.stop_history.proofs.Over.{closed_over}
use Rattle.stop_history.proofs.laws.closed_rows_are_over_together.Goals as goal

pub returns : goal.returns
returns c = closed_over
