-- The law is a lemma on views.
use Rattle.stop_table.proofs.Calls.{both_go_on}
use Rattle.stop_table.proofs.laws.both_that_met_go_on.Goals as goal

pub returns : goal.returns
returns c = both_go_on
