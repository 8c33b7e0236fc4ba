-- A call that only looks makes no event.
use Rattle.stop_table.proofs.Own.{own_stays}
use Rattle.stop_table.proofs.laws.looks_make_no_event.Goals as goal

pub returns : goal.returns
returns c = own_stays
