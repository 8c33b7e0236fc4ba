-- The table has each digit's value.
use Rattle.std.proofs.Common.{◌∙◌, ap, get_or}
use Rattle.text_lines.specs.declared.numbers.TheConstants.{DIGITS}
use Rattle.text_lines.proofs.Digits.{digit_in_table, no_digit_in_table}
use Rattle.text_lines.proofs.numbers.digit.Goals as goal

pub returns-then-value-base : goal.returns-then-value-base
returns-then-value-base c =
    digit_in_table c.args.base c.args.c c.from-value.result c.requires c.ranges.c.fits
    (c.from-value.ensures ∙ ap (λ i. get_or DIGITS i 0) c.from.ensures) c.if-value-base.true

pub returns-else-value-base : goal.returns-else-value-base
returns-else-value-base c =
    no_digit_in_table c.args.base c.args.c c.from-value.result c.requires c.ranges.c.fits
    (c.from-value.ensures ∙ ap (λ i. get_or DIGITS i 0) c.from.ensures) c.if-value-base.false
