-- The events of a legal running history.
use Rattle.stop_table.proofs.Entries.{legal_history, ranged_history}
use Rattle.stop_table.proofs.laws.what_is_seen_is_legal.Goals as goal

pub returns-clause-legal : goal.returns-clause-legal
returns-clause-legal c = legal_history

pub returns-clause-in_range : goal.returns-clause-in_range
returns-clause-in_range c = ranged_history
