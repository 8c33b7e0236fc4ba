-- The law is a lemma on plain lists.
use Rattle.stop_history.proofs.Rosters.{placed}
use Rattle.stop_history.proofs.laws.rows_are_placed.Goals as goal

pub returns-clause-placed : goal.returns-clause-placed
returns-clause-placed c = placed
