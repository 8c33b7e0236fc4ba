-- The page that is mapped determines the memory after it.
use Rattle.trace_pages.proofs.Memories.{mapped_is}
use Rattle.trace_script.proofs.script.memory_parts.map_page.Goals as goal

pub returns-in-Ok : goal.returns-in-Ok
returns-in-Ok g c = mapped_is c.args.memory.now c.map.new.self c.args.page c.in-Ok.ensures.ok
