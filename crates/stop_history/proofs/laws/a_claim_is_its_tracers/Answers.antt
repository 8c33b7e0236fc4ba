-- The law is a lemma on plain lists.
use Rattle.stop_history.proofs.Longer.{claimed_before}
use Rattle.stop_history.proofs.laws.a_claim_is_its_tracers.Goals as goal

pub returns : goal.returns
returns c = claimed_before
