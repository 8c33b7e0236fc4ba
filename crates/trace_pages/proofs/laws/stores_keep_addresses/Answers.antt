-- The law is a lemma on flat memory.
use Rattle.trace_pages.proofs.Memories.{same_run_end, stored_same}
use Rattle.trace_pages.proofs.laws.stores_keep_addresses.Goals as goal

pub returns-clause-addresses : goal.returns-clause-addresses
returns-clause-addresses c = stored_same

pub returns-clause-ends : goal.returns-clause-ends
returns-clause-ends c = same_run_end
