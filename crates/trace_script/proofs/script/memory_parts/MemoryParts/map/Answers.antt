-- A page more is the last part.
use Rattle.std.proofs.Common.{[], refl, ℕ}
use Rattle.trace_script.specs.declared.script.memory_parts.MemoryPart.{MemoryPart}
use Rattle.trace_script.specs.declared.script.memory_parts.PartContent.TheVariants as content
use Rattle.trace_script.proofs.MemoryParts.{part_kept, part_seen}
use Rattle.trace_script.proofs.script.memory_parts.MemoryParts.map.Goals as goal

abbrev page_part : ℕ → MemoryPart
page_part page = record { addr = page; content = content.Page }

pub invariant_of-self-2 : goal.invariant_of-self-2
invariant_of-self-2 g c =
    rw (c.in_ok-append.ensures.parts, c.in_ok-append.ensures.bytes)
    (part_kept c.self.inside.parts.items c.self.inside.bytes.items [] (page_part c.args.page) c.self.invariant refl
    (c.requires.whole, rw (← c.self.view_is) at c.requires.free))

pub returns : goal.returns
returns g c =
    rw (c.in_ok-append.ensures.parts, c.in_ok-append.ensures.bytes, ← c.self.view_is)
    (part_seen c.self.inside.parts.items c.self.inside.bytes.items [] (page_part c.args.page) c.self.invariant refl)
