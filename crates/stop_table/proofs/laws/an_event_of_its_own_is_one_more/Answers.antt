-- An event of a handle's own is one more.
use Rattle.stop_table.proofs.Own.{own_grows}
use Rattle.stop_table.proofs.laws.an_event_of_its_own_is_one_more.Goals as goal

pub returns : goal.returns
returns c = own_grows
