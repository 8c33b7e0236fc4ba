-- The table has each digit's value.
use Rattle.std.proofs.Common.{◌∙◌, ap, arith, get_or}
use Rattle.text_lines.specs.declared.numbers.TheConstants.{DIGITS}
use Rattle.text_lines.proofs.Digits.{no_first_in_table, no_second_in_table, pair_in_table}
use Rattle.text_lines.proofs.numbers.two_digits.Goals as goal
use Rattle.text_lines.proofs.numbers.two_digits.Goals.{else-high-lt-NO_DIGIT-via-then-high-lt-NO_DIGIT+else-low-lt-NO_DIGIT, else-high-lt-NO_DIGIT-via-else-high-lt-NO_DIGIT}

pub returns-then-low-lt-NO_DIGIT : goal.returns-then-low-lt-NO_DIGIT
returns-then-low-lt-NO_DIGIT c =
    pair_in_table c.args.high c.args.low c.from-then-low-lt-NO_DIGIT.result c.from-then-low-lt-NO_DIGIT-2.result
    c.ranges.high.fits c.ranges.low.fits
    (c.from-then-low-lt-NO_DIGIT.ensures ∙ ap (λ i. get_or DIGITS i 0) c.from.ensures)
    (c.from-then-low-lt-NO_DIGIT-2.ensures ∙ ap (λ i. get_or DIGITS i 0) c.from-2.ensures)
    (omega (arith, c.from-then-low-lt-NO_DIGIT.ensures, c.if-high-lt-NO_DIGIT.true))
    (omega (arith, c.from-then-low-lt-NO_DIGIT-2.ensures, c.if-low-lt-NO_DIGIT.true))

pub returns-else-high-lt-NO_DIGIT : goal.returns-else-high-lt-NO_DIGIT
returns-else-high-lt-NO_DIGIT c =
    elim c.else-high-lt-NO_DIGIT.branch [
      | else-high-lt-NO_DIGIT-via-then-high-lt-NO_DIGIT+else-low-lt-NO_DIGIT w ↦
          no_second_in_table c.args.high c.args.low _ c.ranges.low.fits
          (ap (λ i. get_or DIGITS i 0) c.from-2.ensures) w.if-low-lt-NO_DIGIT.false
      | else-high-lt-NO_DIGIT-via-else-high-lt-NO_DIGIT w ↦
          no_first_in_table c.args.high c.args.low _ c.ranges.high.fits
          (ap (λ i. get_or DIGITS i 0) c.from.ensures) w.if-high-lt-NO_DIGIT.false
    ]
