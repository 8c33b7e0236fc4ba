-- The law is a lemma on plain lists.
use Rattle.stop_history.proofs.Longer.{births_grow, born_stays, unborn_is_silent}
use Rattle.stop_history.proofs.laws.births_only_grow.Goals as goal

pub returns-clause-births : goal.returns-clause-births
returns-clause-births c = births_grow

pub returns-clause-born : goal.returns-clause-born
returns-clause-born c = born_stays

pub returns-clause-silent : goal.returns-clause-silent
returns-clause-silent c = unborn_is_silent
