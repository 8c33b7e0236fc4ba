-- The digits so far, and those that follow, write the number.
use Rattle.std.proofs.Common.{◌≡◌, ◌<◌, ◌^◌, drop}
use Rattle.text_lines.specs.Numbers.{digits_after, numeral, within_u64}
use Rattle.text_lines.proofs.numbers.number_in.Given as goal

-- the digits left, after the number so far, write what all digits write
abbrev pub invariant-loop-c : goal.invariant-loop-c
invariant-loop-c l = record {
  small : l.n < 2 ^ 64;
  read : within_u64 (digits_after l.base l.n (drop l.c-index l.digits)) ≡ within_u64 (numeral l.base l.digits);
}
