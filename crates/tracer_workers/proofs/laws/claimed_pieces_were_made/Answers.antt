-- By induction over the history.
use Rattle.tracer_workers.proofs.ThreadLaws.{claimed_are_made}
use Rattle.tracer_workers.proofs.laws.claimed_pieces_were_made.Goals as goal

pub returns : goal.returns
returns c = claimed_are_made
