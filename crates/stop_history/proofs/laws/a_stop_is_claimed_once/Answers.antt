-- The law is a lemma on plain lists.
use Rattle.stop_history.specs.Event.{events_of}
use Rattle.stop_history.proofs.Claims.{claimed_once, numbered}
use Rattle.stop_history.proofs.laws.a_stop_is_claimed_once.Goals as goal

pub returns : goal.returns
returns c = λ rows h legal row number. claimed_once number (events_of row h) (numbered rows h legal row)
