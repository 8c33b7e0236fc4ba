-- A number that passes 64 bits stays too large, whatever digits follow.
use Rattle.std.proofs.Common.{◌∙◌, sym}
use Rattle.text_lines.proofs.Digits.{too_large_here}
use Rattle.text_lines.proofs.numbers.number_in.Goals as goal

pub returns-in_err-n : goal.returns-in_err-n
returns-in_err-n c =
    c.from_residual-in_err-n.ensures
    ∙ sym (too_large_here c.args.base c.loop-c.n c.loop-c.c-index c.args.digits.now c.in_ok-digit.digit
    c.requires.some c.loop-c-test.true
    (sym c.in_ok-digit.ensures) (sym c.in_err-n.ensures) c.loop-c.invariant.read)
