-- The law is a lemma on plain lists.
use Rattle.stop_history.proofs.AtomicSteps.{bits_stand}
use Rattle.stop_history.proofs.laws.atomic_steps_keep_bits.Goals as goal

pub returns : goal.returns
returns c = bits_stand
