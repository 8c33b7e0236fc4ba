-- The law is a lemma on plain lists.
use Rattle.stop_history.proofs.AtomicSteps.{taken_other, taken_own}
use Rattle.stop_history.proofs.laws.a_take_up_changes_its_row_alone.Goals as goal

pub returns-clause-own : goal.returns-clause-own
returns-clause-own c = taken_own

pub returns-clause-other : goal.returns-clause-other
returns-clause-other c = taken_other
