-- The lowest bit that is set is the first space.
use Rattle.std.proofs.Common.{◌∙◌, ap, arith, eqb, take, w8}
use Rattle.std.proofs.lemmas.Simd.{bitmask_splat, trailing_mask_l}
use lib.Count.{count_trailing_zeros}
use Rattle.text_lines.proofs.Spaces.{eight, is_space}
use Rattle.text_lines.proofs.lines.bytes_before_space.Goals as goal

pub returns-else-spaces-eq0 : goal.returns-else-spaces-eq0
returns-else-spaces-eq0 c =
    let first = take 8 c.args.line.now in
    let long = eight c.args.line.now c.requires in
    let is = bitmask_splat w8 eqb first 8 32 long (omega arith) in
    let some = c.if-spaces-eq0.false in
    ap (count_trailing_zeros 64) is ∙ trailing_mask_l is_space 64 first (omega (arith, long)) (omega (arith, is, some))
