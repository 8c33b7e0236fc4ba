-- One more part is written, or a part is cut off.
use Rattle.std.proofs.Common.{◌≡◌, ◌∙◌, ◌+◌, ◌++◌, [], ap, append_assoc, drop, slice_index_or, sym}
use Rattle.outcome_text.specs.CutOff.{text_of_parts}
use Rattle.outcome_text.proofs.TextOfParts.{appends_both, cut_in_part, of_error, text_from}
use Rattle.outcome_text.proofs.parts.write_parts.Goals as goal

pub returns-in_err-write_part-clause-cut_off : goal.returns-in_err-write_part-clause-cut_off
returns-in_err-write_part-clause-cut_off g c =
    let parts = c.args.parts.now in
    let part = (slice_index_or parts c.loop-part.part-index (record { ref_ptr = (0, 0); now = [] })).now in
    let written = c.loop-part.invariant.0 in
    let rest = text_of_parts (drop (c.loop-part.part-index + 1) parts) in
    let whole : written ++ (part ++ rest) ≡ text_of_parts parts =
    ap (λ t. written ++ t) (sym (text_from parts c.loop-part.part-index _ c.loop-part-test.true))
    ∙ c.loop-part.invariant.1 in
    of_error c.from_residual.result
    (cut_in_part written part rest (text_of_parts parts) (g.W.Write.contents c.args.writer.now)
    (g.W.Write.contents c.loop-part.writer) (g.W.Write.contents c.write_part.new.writer) whole
    c.loop-part.invariant.2 c.in_err-write_part.ensures.cut_off)

pub loop-part-preserved : goal.loop-part-preserved
loop-part-preserved g c =
    let parts = c.args.parts.now in
    let part = (slice_index_or parts c.loop-part.part-index (record { ref_ptr = (0, 0); now = [] })).now in
    let written = c.loop-part.invariant.0 in
    let rest = text_of_parts (drop (c.loop-part.part-index + 1) parts) in
    let whole : (written ++ part) ++ rest ≡ text_of_parts parts =
    append_assoc written part rest
    ∙ ap (λ t. written ++ t) (sym (text_from parts c.loop-part.part-index _ c.loop-part-test.true))
    ∙ c.loop-part.invariant.1 in (
      written ++ part,
      whole,
      appends_both (g.W.Write.contents c.args.writer.now) (g.W.Write.contents c.loop-part.writer)
          (g.W.Write.contents c.write_part.new.writer) written part c.loop-part.invariant.2 c.in_ok-write_part.ensures.ok,
    )
