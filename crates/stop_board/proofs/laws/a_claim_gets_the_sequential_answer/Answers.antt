-- The law is a lemma on Worlds.
use Rattle.stop_board.proofs.Worlds.{got_is_sequential}
use Rattle.stop_board.proofs.laws.a_claim_gets_the_sequential_answer.Goals as goal

pub returns : goal.returns
returns c = got_is_sequential
