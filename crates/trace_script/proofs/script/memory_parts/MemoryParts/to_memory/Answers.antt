-- Each part can follow those before it.
use Rattle.trace_script.proofs.script.memory_parts.MemoryParts.to_memory.Goals as goal

pub memory_of-requires : goal.memory_of-requires
memory_of-requires g c = rw (c.as_slice.ensures.value, c.as_slice-2.ensures.value) c.self.invariant.each
