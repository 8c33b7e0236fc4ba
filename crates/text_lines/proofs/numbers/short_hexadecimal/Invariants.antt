use Rattle.std.proofs.Common.{◌≡◌, ◌<◌, ◌≤◌, ◌^◌, ◌-◌, length}
use Rattle.text_lines.specs.Numbers.{digits_after, numeral}
use Rattle.text_lines.proofs.numbers.short_hexadecimal.Given as goal

-- the digits left, after the number so far, write what all digits write
abbrev pub invariant-pairs : goal.invariant-pairs
invariant-pairs l = record {
  left : length l.rest ≤ length l.digits;
  small : l.n < 16 ^ (length l.digits - length l.rest);
  read : digits_after 16 l.n l.rest ≡ numeral 16 l.digits;
}

abbrev pub decreases-pairs : goal.decreases-pairs
decreases-pairs l = length l.rest
