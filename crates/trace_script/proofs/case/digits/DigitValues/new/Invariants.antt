-- The values of the digits so far stand in the table.
use Rattle.std.proofs.Common.{◌≡◌, ◌<◌, ℕ, Some, length, true}
use Rattle.std.specs.List.{slice_index}
use Rattle.hex.specs.Hex.{hex_digit_value, is_hex_digit}
use Rattle.trace_script.proofs.case.digits.DigitValues.new.Given as goal

abbrev pub invariant-loop-i : goal.invariant-loop-i
invariant-loop-i l =
    record {
      size : length l.values ≡ 256;
      known : (digit : ℕ) → digit < l.i → is_hex_digit digit ≡ true
          → hex_digit_value digit ≡ Some (slice_index l.values digit);
    }
