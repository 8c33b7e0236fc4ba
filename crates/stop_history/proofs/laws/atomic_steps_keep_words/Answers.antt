-- The law is a lemma on plain lists.
use Rattle.stop_history.proofs.AtomicSteps.{change_stands}
use Rattle.stop_history.proofs.laws.atomic_steps_keep_words.Goals as goal

pub returns : goal.returns
returns c = change_stands
