-- The values of hexadecimal digits in a table, one for each byte.
use Rattle.std.specs.Prelude.{◌≡◌, ◌<◌, true, ℕ, List, Some, slice_index}
use Rattle.hex.specs.Hex.{hex_digit_value, is_hex_digit}

-- beside each byte that is a digit stands the digit's value
abbrev pub AreDigitValues : List ℕ → Type 0
AreDigitValues values =
    (digit : ℕ) → digit < 256 → is_hex_digit digit ≡ true → hex_digit_value digit ≡ Some (slice_index values digit)
