-- A space after the bytes that are compared at once, or none.
use Rattle.std.proofs.Common.{◌∙◌, ap, arith, position, sym}
use Rattle.text_lines.proofs.Cuts.{whole_rest}
use Rattle.text_lines.proofs.Spaces.{far, is_space, nowhere_at_all}
use Rattle.text_lines.proofs.lines.space.Goals as goal

pub returns-in_err-after : goal.returns-in_err-after
returns-in_err-after c =
    let long = c.if-line-lt-LANES.false in
    let past = c.if-before-lt-LANES.false in
    let before = c.bytes_before_space-before.ensures in
    c.from_residual.ensures
    ∙ sym (nowhere_at_all c.args.line.now (omega (arith, long)) (omega (arith, past, before))
    (ap (position is_space) (sym (whole_rest 8 c.args.line.now)) ∙ sym c.space_by_byte-2.ensures ∙ c.in_err-after.was))

pub returns : goal.returns
returns c =
    let long = c.if-line-lt-LANES.false in
    let past = c.if-before-lt-LANES.false in
    let before = c.bytes_before_space-before.ensures in
    sym (far c.args.line.now c.in_ok-after.after (omega (arith, long)) (omega (arith, past, before))
    (ap (position is_space) (sym (whole_rest 8 c.args.line.now)) ∙ sym c.space_by_byte-2.ensures ∙ c.in_ok-after.was))
