-- The law is a lemma on plain lists.
use Rattle.outcome_text.proofs.CameTrue.{came_true, true_came}
use Rattle.outcome_text.proofs.laws.printed_outcomes_came_true.Goals as goal

pub returns : goal.returns
returns c = λ threads commands past log. (came_true threads commands past log, true_came threads commands log)
