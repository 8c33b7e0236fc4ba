-- What `decimal` writes is a word, and is read as its number.
use Rattle.std.proofs.Common.{refl, ◌≡◌, ◌+◌, ◌*◌, ◌^◌, ◌<◌, ◌≤◌, ◌&&◌, ◌∷◌, [], ℕ, Bool, true, false, nat_lt, nat_le}
use Rattle.std.proofs.Common.{List, Some, None, Ok, length, drop, cond, arith, eqb, ne_eqb, lt-ltb, le-leb, decimal}
use Rattle.std.proofs.Common.{suc, ap, sym, ◌∙◌, ℤ, pos, negsuc, bytes_eq, inl, inr}
use Rattle.std.specs.Prelude.{neg_ℤ}
use Rattle.std.specs.Fmt.{signed_decimal}
use Rattle.std.specs.Int.Signed.{mag}
use Rattle.std.proofs.lemmas.Bool.{and_from, cases_Bool}
use Rattle.std.proofs.lemmas.Fmt.{decimal_is_IsNumeral}
use Rattle.std.proofs.lemmas.Option.{none-some}
use Rattle.std.proofs.lemmas.Slice.Eq.{bytes_eq-Decides}
use Rattle.std.proofs.lemmas.Str.Parse.{digit_from_value}
use Rattle.std.specs.Char.{digit_value}
use Rattle.std.specs.Str.Parse.{AllDigits, IsNumeral, digits_value, digits_value_after}
use Rattle.text_lines.specs.Lines.{has_letters}
use Rattle.text_lines.specs.Numbers.{digits_after, integer_of, is_hex, is_negative, negated_integer, number_of}
use Rattle.text_lines.specs.Numbers.{numeral, plain_integer, within_u64}
use Rattle.text_lines.specs.Ranges.{number_between, ranged}
use Rattle.text_lines.proofs.Spelled.{all_above, is_word}

digits_above : (ds : List ℕ) → AllDigits 10 ds → all_above ds ≡ true
digits_above [] h = refl
digits_above (d ∷ ds) h =
    let range = digit_from_value d h.0 in
    and_from (nat_lt 32 d) (all_above ds) (lt-ltb 32 d (omega arith)) (digits_above ds h.1)

pub decimal_is_word : (n : ℕ) → n < 2 ^ 64 → is_word (decimal n) ≡ true
decimal_is_word n small =
    let numeral = (decimal_is_IsNumeral n small).0 in
    and_from (has_letters (decimal n)) (all_above (decimal n)) (lt-ltb 0 (length (decimal n)) numeral.0)
    (digits_above (decimal n) numeral.1)

neither : (b c : Bool) → c ≡ false → (b && c) ≡ false
neither true c h = h
neither false c h = refl

-- a decimal does not begin with 0x
not_hex : (ds : List ℕ) → AllDigits 10 ds → is_hex ds ≡ false
not_hex [] h = refl
not_hex (d ∷ []) h = neither (eqb d 48) false refl
not_hex (d ∷ e ∷ ds) h =
    let range = digit_from_value e h.1.0 in
    neither (eqb d 48) (eqb e 120) (ne_eqb e 120 (λ same. omega arith))

digits_read : (n : ℕ) (ds : List ℕ) → AllDigits 10 ds → digits_after 10 n ds ≡ Some (digits_value_after 10 n ds)
digits_read n [] h = refl
digits_read n (d ∷ ds) h =
    ap (λ b. cond b (digits_after 10 (n * 10 + digit_value d) ds) None) (lt-ltb (digit_value d) 10 h.0)
    ∙ digits_read (n * 10 + digit_value d) ds h.1

numeral_read : (ds : List ℕ) → IsNumeral 10 ds → numeral 10 ds ≡ Some (digits_value 10 ds)
numeral_read [] h = absurd (let some : 0 < 0 = h.0 in omega arith)
numeral_read (d ∷ ds) h = digits_read 0 (d ∷ ds) h.1

-- a decimal is read as its number
pub decimal_read : (n : ℕ) → n < 2 ^ 64 → number_of (decimal n) ≡ Some n
decimal_read n small =
    let known = decimal_is_IsNumeral n small in
    ap (λ b. within_u64 (cond b (numeral 16 (drop 2 (decimal n))) (numeral 10 (decimal n))))
    (not_hex (decimal n) known.0.1)
    ∙ ap within_u64 (numeral_read (decimal n) known.0 ∙ ap Some known.1)
    ∙ ap (λ b. cond b (Some n) None) (lt-ltb n (2 ^ 64) small)

-- a decimal differs from any word that cannot be read as a number
pub is_no_word : (n : ℕ) (word : List ℕ) → n < 2 ^ 64 → number_of word ≡ None → bytes_eq (decimal n) word ≡ false
is_no_word n word small none =
    elim (cases_Bool (bytes_eq (decimal n) word)) [
      | inl same ↦
          let is : decimal n ≡ word = (bytes_eq-Decides (decimal n) word).0 same in
          absurd (none-some n (sym none ∙ sym (ap number_of is) ∙ decimal_read n small))
      | inr other ↦ other
    ]

-- and in its range
pub decimal_between : (low high n : ℕ) → low ≤ n → n ≤ high → high < 2 ^ 64 → number_between low high (decimal n) ≡ Ok n
decimal_between low high n least most small =
    ap (ranged low high) (decimal_read n (omega arith))
    ∙ rw (and_from (nat_le low n) (nat_le n high) (le-leb low n least) (le-leb n high most))

-- ---- integers
decimal_numeral : (n : ℕ) → n < 2 ^ 64 → numeral 10 (decimal n) ≡ Some n
decimal_numeral n small =
    let known = decimal_is_IsNumeral n small in
    numeral_read (decimal n) known.0 ∙ ap Some known.1

-- a decimal has no sign
no_minus : (ds : List ℕ) → AllDigits 10 ds → is_negative ds ≡ false
no_minus [] h = refl
no_minus (d ∷ ds) h =
    let range = digit_from_value d h.0 in
    ne_eqb d 45 (λ same. omega arith)

-- what is written of an integer is read as it
pub integer_read : (z : ℤ) → mag z < 2 ^ 63 → integer_of (signed_decimal z) ≡ Some z
integer_read (pos n) small =
    ap (λ b. cond b (negated_integer (numeral 10 (drop 1 (decimal n)))) (plain_integer (numeral 10 (decimal n))))
    (no_minus (decimal n) (decimal_is_IsNumeral n (omega arith)).0.1)
    ∙ ap plain_integer (decimal_numeral n (omega arith))
    ∙ ap (λ b. cond b (Some (pos n)) None) (lt-ltb n (2 ^ 63) small)
integer_read (negsuc n) small =
    ap negated_integer (decimal_numeral (suc n) (omega arith))
    ∙ ap (λ b. cond b (Some (neg_ℤ (pos (suc n)))) None) (le-leb (suc n) (2 ^ 63) (omega arith))

pub integer_is_word : (z : ℤ) → mag z < 2 ^ 63 → is_word (signed_decimal z) ≡ true
integer_is_word (pos n) small = decimal_is_word n (omega arith)
integer_is_word (negsuc n) small =
    and_from (has_letters (45 ∷ decimal (suc n))) (all_above (45 ∷ decimal (suc n)))
    (lt-ltb 0 (length (45 ∷ decimal (suc n))) (omega arith))
    (digits_above (decimal (suc n)) (decimal_is_IsNumeral (suc n) (omega arith)).0.1)
