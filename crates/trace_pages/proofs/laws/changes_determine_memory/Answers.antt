-- The law is a lemma on flat memory.
use Rattle.trace_pages.proofs.Memories.{is_mapped, is_stored, mapped_is, same_memory, stored_is}
use Rattle.trace_pages.proofs.laws.changes_determine_memory.Goals as goal

pub returns-clause-same : goal.returns-clause-same
returns-clause-same c = same_memory

pub returns-clause-map : goal.returns-clause-map
returns-clause-map c = λ before after page. (mapped_is before after page, is_mapped before after page)

pub returns-clause-store : goal.returns-clause-store
returns-clause-store c = λ before after address bytes.
    (stored_is before after address bytes, is_stored before after address bytes)
