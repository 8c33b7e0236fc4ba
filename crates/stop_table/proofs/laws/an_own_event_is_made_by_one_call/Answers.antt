-- The law is a lemma on views.
use Rattle.stop_table.proofs.Calls.{made_by_one}
use Rattle.stop_table.proofs.laws.an_own_event_is_made_by_one_call.Goals as goal

pub returns : goal.returns
returns c = made_by_one
