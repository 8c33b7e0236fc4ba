-- The law is a lemma on lists of notes.
use Rattle.record_printer.proofs.Starts.{bound_pair, is_start, pair_bound, start_is}
use Rattle.record_printer.proofs.laws.calls_are_said_of_places.Goals as goal

pub returns-clause-starts : goal.returns-clause-starts
returns-clause-starts c = λ notes i. (start_is notes i, is_start notes i)

pub returns-clause-pairs : goal.returns-clause-pairs
returns-clause-pairs c = pair_bound

pub returns-clause-bounds : goal.returns-clause-bounds
returns-clause-bounds c = bound_pair
