-- No page is the empty memory.
use Rattle.trace_pages.proofs.Counts.{flat_of-none}
use Rattle.trace_pages.proofs.memory.Memory.new.Goals as goal

pub returns : goal.returns
returns g c = rw (c.new.ensures.items, c.new-2.ensures.items) flat_of-none
