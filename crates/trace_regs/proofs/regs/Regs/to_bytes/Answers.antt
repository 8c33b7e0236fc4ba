-- The bytes of registers are those of the 27 words in their order.
use Rattle.std.proofs.Common.{◌∙◌, ap}
use Rattle.std.specs.Int.{w64, to_le_bytes}
use Rattle.std.specs.List.{flat_map}
use Rattle.trace_regs.specs.Regs.{bytes_of}
use Rattle.trace_regs.proofs.regs.Regs.to_bytes.Goals as goal

pub returns : goal.returns
unfolding bytes_of
returns c = c.write_words.ensures ∙ ap (flat_map (to_le_bytes w64)) c.to_words.ensures
