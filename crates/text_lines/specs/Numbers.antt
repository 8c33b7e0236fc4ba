-- Numbers as words. Without a sign: decimal digits, or `0x` and hexadecimal digits in either case, within 64 bits. With
-- a sign: decimal digits, or `-` and decimal digits, within 64 bits.
use Rattle.std.specs.Prelude.{◌==◌, ◌&&◌, ◌+◌, ◌*◌, ◌^◌, ◌∷◌, [], ℕ, Bool, nat_le, nat_lt, ℤ, pos, neg_ℤ}
use Rattle.std.specs.Prelude.{List, drop, Option, Some, None, if◌then◌else◌, slice_index}
use Rattle.std.specs.Char.{digit_value}

-- the number that digits of a base write after those of n, if all of them are digits
abbrev pub digits_after : (base n : ℕ) → List ℕ → Option ℕ
digits_after base n [] = Some n
digits_after base n (c ∷ cs) =
    if nat_lt (digit_value c) base then digits_after base (n * base + digit_value c) cs else None

-- the number that one digit or more write
abbrev pub numeral : ℕ → List ℕ → Option ℕ
numeral base [] = None
numeral base (c ∷ cs) = digits_after base 0 (c ∷ cs)

abbrev pub within_u64 : Option ℕ → Option ℕ
within_u64 None = None
within_u64 (Some n) = if nat_lt n (2 ^ 64) then Some n else None

-- begins with 0x
abbrev pub is_hex : List ℕ → Bool
is_hex word = slice_index word 0 == 48 && slice_index word 1 == 120

abbrev pub number_of : List ℕ → Option ℕ
number_of word = within_u64 (if is_hex word then numeral 16 (drop 2 word) else numeral 10 word)

-- 0 to 2^63 - 1
abbrev pub plain_integer : Option ℕ → Option ℤ
plain_integer None = None
plain_integer (Some n) = if nat_lt n (2 ^ 63) then Some (pos n) else None

-- -2^63 to 0
abbrev pub negated_integer : Option ℕ → Option ℤ
negated_integer None = None
negated_integer (Some n) = if nat_le n (2 ^ 63) then Some (neg_ℤ (pos n)) else None

-- begins with a minus sign
abbrev pub is_negative : List ℕ → Bool
is_negative word = slice_index word 0 == 45

abbrev pub integer_of : List ℕ → Option ℤ
integer_of word =
    if is_negative word then negated_integer (numeral 10 (drop 1 word)) else plain_integer (numeral 10 word)
