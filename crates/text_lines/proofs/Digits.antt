-- What is too large stays so, however many digits follow.
use Rattle.std.proofs.Common.{refl, ◌≡◌, ◌+◌, ◌*◌, ◌^◌, ◌<◌, ◌≤◌, ◌∷◌, [], ℕ, Bool, true, false, List, Option, Some}
use Rattle.std.proofs.Common.{None, cond, arith, le-ltb, lt-ltb, nat_lt, suc, length, get_or, drop, drop-cons}
use Rattle.std.proofs.Common.{if◌then◌else◌, ap, sym, ◌∙◌, inl, inr, mul-le-mul_left, eqb, min, zero, ◌&&◌}
use Rattle.std.proofs.lemmas.Bool.{cases_lt}
use Rattle.std.proofs.lemmas.Option.{cond_some}
use Rattle.std.specs.Char.{digit_value}
use Rattle.std.proofs.Math.Nat.{mul-le-mul_right, pow-le-pow_right, pow-suc}
use Rattle.std.proofs.lemmas.Bool.{and_parts, eqb-true, ltb-true}
use Rattle.text_lines.specs.declared.numbers.TheConstants.{DIGITS}
use Rattle.text_lines.specs.Numbers.{digits_after, numeral, within_u64}

abbrev AtLeast : ℕ → Option ℕ → Type 0
AtLeast n None = Unit {0}
AtLeast n (Some m) = n ≤ m

past : (b : Bool) (n m : ℕ) (o : Option ℕ) → n ≤ m → AtLeast m o → AtLeast n (cond b o None)
past true n m None h k = tt
past true n m (Some x) h k = omega arith
past false n m o h k = tt

-- more digits write no smaller number
grows : (base n : ℕ) (cs : List ℕ) → 1 ≤ base → AtLeast n (digits_after base n cs)
grows base n [] h = omega arith
grows base n (c ∷ cs) h =
    past (nat_lt (digit_value c) base) n (n * base + digit_value c) (digits_after base (n * base + digit_value c) cs)
    (omega (arith, mul-le-mul_left n h)) (grows base (n * base + digit_value c) cs h)

too_large : (n : ℕ) (o : Option ℕ) → 2 ^ 64 ≤ n → AtLeast n o → within_u64 o ≡ None
too_large n None h k = refl
too_large n (Some m) h k = let above : 2 ^ 64 ≤ m = omega arith in rw (le-ltb m (2 ^ 64) above)

pub fits_u64 : (n : ℕ) → n < 2 ^ 64 → within_u64 (Some n) ≡ Some n
fits_u64 n small = rw (lt-ltb n (2 ^ 64) small) refl

overflown : (n : ℕ) → within_u64 (Some n) ≡ None → 2 ^ 64 ≤ n
overflown n h =
    elim (cases_lt n (2 ^ 64)) [
      | inl fits ↦ let is = fits_u64 n fits in cc
      | inr above ↦ above
    ]

-- a digit that takes the number past 64 bits takes all of the digits past them
pub too_large_here : (base n k : ℕ) (digits : List ℕ) (digit : ℕ) → 1 ≤ base → k < length digits
    → (if nat_lt (digit_value (get_or digits k 0)) base then Some (digit_value (get_or digits k 0)) else None)
    ≡ Some digit
    → within_u64 (Some (n * base + digit)) ≡ None
    → within_u64 (digits_after base n (drop k digits)) ≡ within_u64 (numeral base digits)
    → within_u64 (numeral base digits) ≡ None
too_large_here base n k digits digit some within is over so_far =
    let told = cond_some (nat_lt (digit_value (get_or digits k 0)) base) (digit_value (get_or digits k 0)) digit is in
    let read : digits_after base n (drop k digits) ≡ digits_after base (n * base + digit) (drop (suc k) digits) =
    ap (digits_after base n) (drop-cons digits k 0 within)
    ∙ rw told.0 (ap (λ d. digits_after base (n * base + d) (drop (suc k) digits)) told.1) in
    sym so_far ∙ ap within_u64 read
    ∙ too_large (n * base + digit) (digits_after base (n * base + digit) (drop (suc k) digits))
    (overflown (n * base + digit) over) (grows base (n * base + digit) (drop (suc k) digits) some)

-- ---- the table

agrees : ℕ → List ℕ → Bool
agrees c [] = true
agrees c (value ∷ values) = eqb value (min 16 (digit_value c)) && agrees (c + 1) values

agreed : (c i : ℕ) (values : List ℕ) → agrees c values ≡ true → i < length values
    → get_or values i 0 ≡ min 16 (digit_value (c + i))
unfolding agrees
agreed c i [] h within = absurd (omega arith)
agreed c zero (value ∷ values) h within =
    let parts = and_parts (eqb value (min 16 (digit_value c))) (agrees (c + 1) values) h in
    let same : c ≡ c + 0 = omega arith in
    eqb-true value (min 16 (digit_value c)) parts.0 ∙ ap (λ k. min 16 (digit_value k)) same
agreed c (suc i) (value ∷ values) h within =
    let parts = and_parts (eqb value (min 16 (digit_value c))) (agrees (c + 1) values) h in
    let same : c + 1 + i ≡ c + suc i = omega arith in
    agreed (c + 1) i values parts.1 (omega arith) ∙ ap (λ k. min 16 (digit_value k)) same

table_agrees : agrees 0 DIGITS ≡ true
unfolding agrees
table_agrees = refl

-- the table has the value of each digit, and 16 for what is none
table_is : (c : ℕ) → c < 256 → get_or DIGITS c 0 ≡ min 16 (digit_value c)
table_is c small =
    let same : 0 + c ≡ c = omega arith in
    agreed 0 c DIGITS table_agrees small ∙ ap (λ k. min 16 (digit_value k)) same

pub digit_in_table : (base c value : ℕ) → base ≤ 16 → c < 256 → value ≡ get_or DIGITS c 0 → value < base
    → Some value ≡ (if nat_lt (digit_value c) base then Some (digit_value c) else None)
digit_in_table base c value few small is below =
    let same = is ∙ table_is c small in
    let digit : value ≡ digit_value c = omega (arith, same, below, few) in
    rw (lt-ltb (digit_value c) base (omega (arith, digit, below))) (ap Some digit)

pub no_digit_in_table : (base c value : ℕ) → base ≤ 16 → c < 256 → value ≡ get_or DIGITS c 0 → base ≤ value
    → None ≡ (if nat_lt (digit_value c) base then Some (digit_value c) else None)
no_digit_in_table base c value few small is above =
    let same = is ∙ table_is c small in
    rw (le-ltb (digit_value c) base (omega (arith, same, above)))

-- ---- few digits

-- a digit more, and the number is still below the power of its base
pub digit_fits : (base n digit i most : ℕ) → 1 ≤ base → n < base ^ i → digit < base → i < most
    → n * base + digit < base ^ most
digit_fits base n digit i most some small below within =
    let next : (n + 1) * base ≤ base ^ i * base = mul-le-mul_right base (omega arith) in
    let up : base ^ suc i ≤ base ^ most = pow-le-pow_right some (omega arith) in
    omega (arith, next, up, pow-suc base i)

pub digit_below : (base value digit : ℕ) → Some digit ≡ (if nat_lt value base then Some value else None) → digit < base
digit_below base value digit is =
    let told = cond_some (nat_lt value base) value digit (sym is) in
    omega (arith, ltb-true value base told.0, told.1)

-- ---- two hexadecimal digits at once

some_pair : (a b : Bool) (m n : ℕ) → Some n ≡ (if a then (if b then Some m else None) else None)
    → (a ≡ true) × ((b ≡ true) × (n ≡ m))
some_pair true true m n is = (refl, (refl, cc is))
some_pair true false m n is = absurd (let clash : Some n ≡ None = is in cc)
some_pair false b m n is = absurd (let clash : Some n ≡ None = is in cc)

no_pair : (a b : Bool) (n : ℕ) (more : Option ℕ) → None ≡ (if a then (if b then Some n else None) else None)
    → (if a then (if b then more else None) else None) ≡ None
no_pair true true n more is = absurd (let clash : None ≡ Some n = is in cc)
no_pair true false n more is = refl
no_pair false b n more is = refl

no_digit : (a : Bool) (n : ℕ) (more : Option ℕ) → None ≡ (if a then Some n else None) → (if a then more else None) ≡ None
no_digit true n more is = absurd (let clash : None ≡ Some n = is in cc)
no_digit false n more is = refl

pair_parts : (high low pair : ℕ) → Some pair ≡ digits_after 16 0 (high ∷ low ∷ [])
    → (nat_lt (digit_value high) 16 ≡ true) × ((nat_lt (digit_value low) 16 ≡ true)
    × (pair ≡ (0 + digit_value high) * 16 + digit_value low))
pair_parts high low pair is =
    some_pair (nat_lt (digit_value high) 16) (nat_lt (digit_value low) 16)
    ((0 + digit_value high) * 16 + digit_value low) pair is

pub pair_below : (high low pair : ℕ) → Some pair ≡ digits_after 16 0 (high ∷ low ∷ []) → pair < 256
pair_below high low pair is =
    let parts = pair_parts high low pair is in
    omega (arith, parts.1.1, ltb-true (digit_value high) 16 parts.0, ltb-true (digit_value low) 16 parts.1.0)

-- they take the number on as they do one after the other
pub pair_more : (n high low pair : ℕ) (digits : List ℕ) → Some pair ≡ digits_after 16 0 (high ∷ low ∷ [])
    → digits_after 16 n (high ∷ low ∷ digits) ≡ digits_after 16 (n * 256 + pair) digits
pair_more n high low pair digits is =
    let parts = pair_parts high low pair is in
    rw (parts.0, parts.1.0) (ap (λ m. digits_after 16 m digits) (omega (arith, parts.1.1)))

pub pair_none : (n high low : ℕ) (digits : List ℕ) → None ≡ digits_after 16 0 (high ∷ low ∷ [])
    → digits_after 16 n (high ∷ low ∷ digits) ≡ None
pair_none n high low digits is =
    no_pair (nat_lt (digit_value high) 16) (nat_lt (digit_value low) 16)
    ((0 + digit_value high) * 16 + digit_value low) _ is

-- two digits more, and the number is still below the power of its base
pub pair_fits : (n pair i more : ℕ) → n < 16 ^ i → pair < 256 → more ≡ suc (suc i) → n * 256 + pair < 16 ^ more
pair_fits n pair i more small below is =
    let all : 16 ^ more ≡ 16 ^ suc (suc i) = ap (λ k. 16 ^ k) is in
    omega (arith, all, pow-suc 16 i, pow-suc 16 (suc i))

-- so few digits fit 64 bits
pub power_fits : (i : ℕ) → i ≤ 16 → 16 ^ i ≤ 2 ^ 64
power_fits i few =
    let some : 1 ≤ 16 = omega arith in
    let up : 16 ^ i ≤ 16 ^ 16 = pow-le-pow_right some few in
    omega (arith, up)

pub first_two : (digits : List ℕ) → 2 ≤ length digits
    → digits ≡ get_or digits 0 0 ∷ get_or digits 1 0 ∷ drop 2 digits
first_two [] long = absurd (omega arith)
first_two (high ∷ []) long = absurd (omega arith)
first_two (high ∷ low ∷ digits) long = refl

-- one digit more
pub one_more : (n c digit : ℕ) → Some digit ≡ (if nat_lt (digit_value c) 16 then Some (digit_value c) else None)
    → digits_after 16 n (c ∷ []) ≡ Some (n * 16 + digit)
one_more n c digit is =
    let told = cond_some (nat_lt (digit_value c) 16) (digit_value c) digit (sym is) in
    rw told.0 (ap (λ d. Some (n * 16 + d)) told.1)

pub one_none : (n c : ℕ) → None ≡ (if nat_lt (digit_value c) 16 then Some (digit_value c) else None)
    → digits_after 16 n (c ∷ []) ≡ None
one_none n c is = no_digit (nat_lt (digit_value c) 16) (digit_value c) (Some (n * 16 + digit_value c)) is

pub only_one : (digits : List ℕ) → 1 ≤ length digits → length digits < 2 → digits ≡ get_or digits 0 0 ∷ []
only_one [] some few = absurd (omega arith)
only_one (c ∷ []) some few = refl
only_one (c ∷ d ∷ digits) some few = absurd (omega arith)

pub no_more : (n : ℕ) (digits : List ℕ) → length digits < 1 → digits_after 16 n digits ≡ Some n
no_more n [] few = refl
no_more n (c ∷ digits) few = absurd (omega arith)

pub some_digits : (digits : List ℕ) → false ≡ eqb (length digits) 0 → digits_after 16 0 digits ≡ numeral 16 digits
some_digits [] some = absurd (let clash : false ≡ true = some in cc)
some_digits (c ∷ cs) some = refl

either_way : (a : Bool) (o : Option ℕ) → o ≡ (if a then o else o)
either_way true o = refl
either_way false o = refl

pub pair_in_table : (high low a b : ℕ) → high < 256 → low < 256 → a ≡ get_or DIGITS high 0 → b ≡ get_or DIGITS low 0
    → a < 16 → b < 16 → Some (a * 16 + b) ≡ digits_after 16 0 (high ∷ low ∷ [])
pair_in_table high low a b small_high small_low a_is b_is a_below b_below =
    let first : a ≡ digit_value high = omega (arith, a_is ∙ table_is high small_high) in
    let second : b ≡ digit_value low = omega (arith, b_is ∙ table_is low small_low) in
    rw (lt-ltb (digit_value high) 16 (omega (arith, first)), lt-ltb (digit_value low) 16 (omega (arith, second)))
    (ap Some (omega (arith, first, second)))

pub no_first_in_table : (high low a : ℕ) → high < 256 → a ≡ get_or DIGITS high 0 → 16 ≤ a
    → None ≡ digits_after 16 0 (high ∷ low ∷ [])
no_first_in_table high low a small a_is above =
    rw (le-ltb (digit_value high) 16 (omega (arith, a_is ∙ table_is high small))) refl

pub no_second_in_table : (high low b : ℕ) → low < 256 → b ≡ get_or DIGITS low 0 → 16 ≤ b
    → None ≡ digits_after 16 0 (high ∷ low ∷ [])
no_second_in_table high low b small b_is above =
    rw (le-ltb (digit_value low) 16 (omega (arith, b_is ∙ table_is low small)))
    (either_way (nat_lt (digit_value high) 16) None)
