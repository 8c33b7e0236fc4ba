-- The law is a lemma on views.
use Rattle.stop_table.proofs.Calls.{all_own}
use Rattle.stop_table.proofs.laws.who_acts_for_all_made_all_events.Goals as goal

pub returns : goal.returns
returns c = all_own
