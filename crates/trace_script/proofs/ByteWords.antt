-- A byte word has two digits for each of its bytes.
use Rattle.std.proofs.Common.{◌≡◌, ◌∙◌, ◌/◌, ◌%◌, [], ℕ, true, List, length, ap, sym, arith, refl}
use Rattle.std.proofs.Common.{◌+◌, ◌*◌, ◌<◌, ◌∷◌, false, get_or, Option, Some, None, is_some, Result, Ok, nat_le, eqb-true, ◌&&◌, ◌==◌}
use Rattle.std.specs.List.{list_all}
use Rattle.std.specs.Result.{result_unwrap_or}
use Rattle.std.proofs.lemmas.Bool.{and_parts}
use Rattle.std.proofs.lemmas.List.Sums.{AllPass-from_list_all}
use Rattle.hex.specs.declared.error.FromHexError.{FromHexError}
use Rattle.hex.specs.Hex.{decode_of, decode_pairs, decode_sized, digit_or_error, hex_digit_value, is_hex_digit, pair_value}
use Rattle.hex.specs.Hex.{value_at}
use Rattle.hex.proofs.Pairs.{decode_pairs-ok_pair}
use Rattle.hex.proofs.HexLemmas.{decode_of-digits, decode_of-even, decode_of-ok}
use Rattle.trace_script.specs.CaseLine.{bytes_written, is_byte_word}

pub written_is : (word bytes : List ℕ) → decode_of word ≡ Ok bytes → bytes ≡ bytes_written word
unfolding bytes_written
written_is word bytes is = sym (ap (λ (r : Result (List ℕ) FromHexError). result_unwrap_or r []) is)

pub bytes_are_halves : (word : List ℕ) → is_byte_word word ≡ true → length (bytes_written word) ≡ length word / 2
bytes_are_halves word is =
    let parts = and_parts (nat_le 2 (length word)) (length word % 2 == 0 && list_all is_hex_digit word) is in
    let more = and_parts (length word % 2 == 0) (list_all is_hex_digit word) parts.1 in
    let even : length word % 2 ≡ 0 = eqb-true (length word % 2) 0 more.0 in
    let decoded = decode_of-digits word even (AllPass-from_list_all is_hex_digit word more.1) in
    let size = (decode_of-ok word decoded.0 decoded.1).2 in
    let same : length decoded.0 ≡ length (bytes_written word) =
    ap (λ (bytes : List ℕ). length bytes) (written_is word decoded.0 decoded.1) in
    omega arith

-- ---- pairs of digits

some_of : (o : Option ℕ) → is_some o ≡ true → (v : ℕ) × (o ≡ Some v)
some_of (Some v) is = (v, refl)
some_of None is = absurd (let clash : false ≡ true = is in cc)

-- two digits write a byte, wherever they are
pub pair_is : (high low a b i : ℕ) → hex_digit_value high ≡ Some a → hex_digit_value low ≡ Some b
    → pair_value high low i ≡ Ok (a * 16 + b)
pair_is high low a b i is_high is_low =
    let first : value_at high i ≡ Ok a = ap (digit_or_error high i) is_high in
    let second : value_at low (i + 1) ≡ Ok b = ap (digit_or_error low (i + 1)) is_low in
    rw (first, second) refl

-- a digit that is decoded after a 0 is its value
pub value_alone : (digit : ℕ) → is_hex_digit digit ≡ true
    → (v : ℕ) × (hex_digit_value digit ≡ Some v) × (decode_sized (48 ∷ digit ∷ []) 1 ≡ Ok (v ∷ []))
unfolding decode_pairs
value_alone digit is =
    let value = some_of (hex_digit_value digit) is in
    let written : 0 * 16 + value.0 ≡ value.0 = omega arith in
    (value.0, value.1, decode_pairs-ok_pair 0 48 digit value.0 [] (pair_is 48 digit 0 value.0 0 refl value.1 ∙ ap Ok written))

word_parts : (word : List ℕ) → is_byte_word word ≡ true
    → (length word % 2 ≡ 0) × ((k : ℕ) → k < length word → is_hex_digit (get_or word k 0) ≡ true)
word_parts word is =
    let parts = and_parts (nat_le 2 (length word)) (length word % 2 == 0 && list_all is_hex_digit word) is in
    let more = and_parts (length word % 2 == 0) (list_all is_hex_digit word) parts.1 in
    (eqb-true (length word % 2) 0 more.0, λ k l. AllPass-from_list_all is_hex_digit word more.1 k 0 l)

pub even_word : (word : List ℕ) → is_byte_word word ≡ true → length word % 2 ≡ 0
even_word word is = (word_parts word is).0

-- all pairs, in order, are the bytes of the word
pub pairs_are : (word bytes : List ℕ) → is_byte_word word ≡ true → decode_pairs 0 word ≡ Ok bytes
    → bytes ≡ bytes_written word
pairs_are word bytes is pairs = written_is word bytes (decode_of-even word (word_parts word is).0 ∙ pairs)
