-- The law is a lemma on plain lists.
use Rattle.outcome_text.proofs.WaitingFor.{passing, refused_so}
use Rattle.outcome_text.proofs.laws.a_wait_is_for_its_refusal_to_pass.Goals as goal

pub returns-clause-passing : goal.returns-clause-passing
returns-clause-passing c = passing

pub returns-clause-refused : goal.returns-clause-refused
returns-clause-refused c = refused_so
