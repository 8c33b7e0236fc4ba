-- The registers of 216 bytes are the 27 words in their order.
use Rattle.std.proofs.Common.{◌∙◌, ◌<◌, ◌^◌, refl, sym, ap, subst}
use Rattle.std.specs.Prelude.{All}
use Rattle.std.specs.Int.{w64, to_le_bytes}
use Rattle.std.specs.List.{flat_map}
use Rattle.trace_regs.specs.Regs.{bytes_of, words_of}
use Rattle.trace_regs.proofs.Words.{regs_told, words_told}
use Rattle.trace_regs.proofs.regs.Regs.from_bytes.Goals as goal

pub returns-clause-told : goal.returns-clause-told
unfolding bytes_of
returns-clause-told c = ap (flat_map (to_le_bytes w64)) c.from_words.ensures ∙ c.read_words.ensures.told

pub returns-clause-each : goal.returns-clause-each
unfolding bytes_of
returns-clause-each c = λ regs fit same.
    regs_told c.from_words.result regs
    (words_told (words_of c.from_words.result) (words_of regs) refl
    (subst (All (λ word. word < 2 ^ 64)) (sym c.from_words.ensures) c.read_words.ensures.fit) fit
    (returns-clause-told c ∙ sym same))
