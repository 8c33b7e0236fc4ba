-- The bytes come after those of all parts, and the part is the last one.
use Rattle.std.proofs.Common.{ℕ}
use Rattle.trace_script.specs.declared.script.memory_parts.MemoryPart.{MemoryPart}
use Rattle.trace_script.specs.declared.script.memory_parts.PartContent.TheVariants as content
use Rattle.trace_script.proofs.MemoryParts.{part_kept, part_seen}
use Rattle.trace_script.proofs.script.memory_parts.MemoryParts.store.Goals as goal

abbrev bytes_part : (address len : ℕ) → MemoryPart
bytes_part address len = record { addr = address; content = content.Bytes len }

pub invariant_of-self-2 : goal.invariant_of-self-2
invariant_of-self-2 g c =
    rw (c.in_ok-append.ensures.parts, c.in_ok-append.ensures.bytes)
    (part_kept c.self.inside.parts.items c.self.inside.bytes.items c.args.bytes.now
    (bytes_part c.args.addr c.in_ok-len.len) c.self.invariant c.in_ok-len.ensures.kept
    (rw (← c.self.view_is) at c.requires))

pub returns : goal.returns
returns g c =
    rw (c.in_ok-append.ensures.parts, c.in_ok-append.ensures.bytes, ← c.self.view_is)
    (part_seen c.self.inside.parts.items c.self.inside.bytes.items c.args.bytes.now
    (bytes_part c.args.addr c.in_ok-len.len) c.self.invariant c.in_ok-len.ensures.kept)
