-- The law is a lemma on plain lists.
use Rattle.stop_history.proofs.Over.{over_is_gone, over_stays}
use Rattle.stop_history.proofs.laws.over_stays_over.Goals as goal

pub returns-clause-over : goal.returns-clause-over
returns-clause-over c = over_stays

pub returns-clause-gone : goal.returns-clause-gone
returns-clause-gone c = over_is_gone
