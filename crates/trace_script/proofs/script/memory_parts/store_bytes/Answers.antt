-- The bytes that are stored determine the memory after them.
use Rattle.trace_pages.proofs.Memories.{stored_is}
use Rattle.trace_script.proofs.script.memory_parts.store_bytes.Goals as goal

pub returns : goal.returns
returns g c = stored_is c.args.memory.now c.store.new.self c.args.addr c.args.bytes.now c.in-Ok.ensures.ok
