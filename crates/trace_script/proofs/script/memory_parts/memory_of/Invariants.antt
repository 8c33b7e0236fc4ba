-- The memory so far, with the parts that are left, is the memory with all parts.
use Rattle.std.proofs.Common.{◌≡◌, drop}
use Rattle.std.specs.FinMap as finite
use Rattle.trace_script.specs.MemoryParts.{CanAllFollow, with_parts}
use Rattle.trace_script.proofs.script.memory_parts.memory_of.Given as goal

abbrev pub invariant-loop-part : goal.invariant-loop-part
invariant-loop-part g l = record {
  each : CanAllFollow l.memory (drop l.part-index l.parts) l.rest;
  same : with_parts l.memory (drop l.part-index l.parts) l.rest ≡ with_parts finite.empty l.parts l.bytes;
}
