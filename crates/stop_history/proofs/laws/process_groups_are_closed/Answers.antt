-- The law is a lemma on plain lists.
use Rattle.stop_history.proofs.Over.{groups_closed}
use Rattle.stop_history.proofs.laws.process_groups_are_closed.Goals as goal

pub returns : goal.returns
returns c = groups_closed
