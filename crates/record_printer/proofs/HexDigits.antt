-- The digits of the eight bytes of a word, without leading zeros, are the digits of the word.
use Rattle.std.proofs.Common.{◌≡◌, ◌+◌, ◌-◌, ◌*◌, ◌/◌, ◌%◌, ◌^◌, ◌<◌, ◌≤◌, ◌==◌, ◌&&◌, ℕ, zero, suc, Bool, true, false}
use Rattle.std.proofs.Common.{List, [], ◌∷◌, ◌++◌, append-nil, drop, take, take_all, length, length-drop, slice_index}
use Rattle.std.proofs.Common.{max, slice_set, sym, refl, ap, ◌∙◌, inl, inr, arith}
use Rattle.std.proofs.Math.Nat.{div-div-eq-div-mul, one-le-pow, pow-succ'}
use Rattle.std.proofs.Math.Pow.{pow_mono}
use Rattle.std.proofs.lemmas.Bool.{and_parts, cases_lt, eq-eqb, eqb-true, ne_eqb}
use Rattle.std.proofs.lemmas.Nat.{leading_le, leading_top}
use Rattle.std.specs.Fmt.{digit_glyph, digits, digits_onto}
use Rattle.std.specs.Int.{w64, byte_at, bytes_high_first, leading_zeros, to_be_bytes}
use Rattle.hex.proofs.HexLemmas.{length-encode_with}
use Rattle.hex.specs.Hex.{encode_lower, encode_with, lower_digits}

-- the last k digits of n, leading zeros among them, before the text
abbrev last_digits : ℕ → ℕ → List ℕ → List ℕ
last_digits zero n text = text
last_digits (suc k) n text = last_digits k (n / 16) (digit_glyph false (n % 16) ∷ text)

-- ---- the table of digits

-- the first places of the table hold the digits: a test that computes
abbrev same_glyphs : ℕ → Bool
same_glyphs zero = true
same_glyphs (suc d) = (slice_index lower_digits d == digit_glyph false d) && same_glyphs d

glyph_below : (k d : ℕ) → same_glyphs k ≡ true → d < k → slice_index lower_digits d ≡ digit_glyph false d
glyph_below zero d same lt = absurd (omega arith)
glyph_below (suc k) d same lt =
    let parts = and_parts (slice_index lower_digits k == digit_glyph false k) (same_glyphs k) same in
    elim (cases_lt d k) [
      | inl below ↦ glyph_below k d parts.1 below
      | inr top ↦ let e : d ≡ k = omega arith in rw e (eqb-true _ _ parts.0)
    ]

glyph : (d : ℕ) → d < 16 → slice_index lower_digits d ≡ digit_glyph false d
glyph d small = glyph_below 16 d refl small

-- ---- the bytes, the last of them first

byte_at_next : (i n : ℕ) → byte_at (suc i) n ≡ byte_at i (n / 256)
byte_at_next zero n = refl
byte_at_next (suc i) n =
    ap (λ m. n / m % 256) (pow-succ' 256 (suc i)) ∙ ap (λ m. m % 256) (sym (div-div-eq-div-mul n 256 (256 ^ suc i)))

last_byte : (k n : ℕ) → bytes_high_first (suc k) n ≡ bytes_high_first k (n / 256) ++ (n % 256 ∷ [])
last_byte zero n = refl
last_byte (suc k) n =
    ap (λ b. b ∷ bytes_high_first (suc k) n) (byte_at_next k n)
    ∙ ap (λ bytes. byte_at k (n / 256) ∷ bytes) (last_byte k n)

encode-append : (xs : List ℕ) (b : ℕ) (text : List ℕ) → b < 256
    → encode_lower (xs ++ (b ∷ [])) ++ text
    ≡ encode_lower xs ++ (digit_glyph false (b / 16) ∷ digit_glyph false (b % 16) ∷ text)
unfolding encode_with
encode-append [] b text small = rw (glyph (b / 16) (omega arith), glyph (b % 16) (omega arith)) refl
encode-append (x ∷ xs) b text small =
    ap (λ rest. slice_index lower_digits (x / 16) ∷ slice_index lower_digits (x % 16) ∷ rest)
    (encode-append xs b text small)

-- the text of k bytes has two digits for each, by induction over the bytes
encoded : (k n : ℕ) (text : List ℕ) → encode_lower (bytes_high_first k n) ++ text ≡ last_digits (k * 2) n text
unfolding encode_with
encoded zero n text = refl
encoded (suc k) n text =
    let twice : suc k * 2 ≡ suc (suc (k * 2)) = omega arith in
    let front : n / 256 ≡ n / 16 / 16 = omega arith in
    let high : n % 256 / 16 ≡ n / 16 % 16 = omega arith in
    let low : n % 256 % 16 ≡ n % 16 = omega arith in
    ap (λ bytes. encode_lower bytes ++ text) (last_byte k n)
    ∙ encode-append (bytes_high_first k (n / 256)) (n % 256) text (omega arith)
    ∙ encoded k (n / 256) _
    ∙ rw (twice, front, high, low) refl

-- ---- leading zeros

drop_before : (j i n : ℕ) (text : List ℕ) → drop (j + i) (last_digits j n text) ≡ drop i text
drop_before zero i n text = let e : 0 + i ≡ i = omega arith in rw e refl
drop_before (suc j) i n text =
    let e : suc j + i ≡ j + suc i = omega arith in
    rw e (drop_before j (suc i) (n / 16) (digit_glyph false (n % 16) ∷ text))

-- a number of d + 1 digits has j leading zeros among its last j + d + 1, by induction over its digits
without_zeros : (j d k n : ℕ) (text : List ℕ) → n < 16 ^ suc d → (0 < d → 16 ^ d ≤ n) → d < k
    → drop j (last_digits (j + suc d) n text) ≡ digits_onto k 16 false n text
without_zeros j d zero n text high low room = absurd (omega arith)
without_zeros j zero (suc k) n text high low room =
    let one : j + 1 ≡ suc j = omega arith in
    let none : n / 16 ≡ 0 = omega arith in
    let all : j ≡ j + 0 = omega arith in
    rw (one, eq-eqb (n / 16) 0 none)
    (ap (λ i. drop i (last_digits (suc j) n text)) all
    ∙ drop_before j 0 (n / 16) (digit_glyph false (n % 16) ∷ text))
without_zeros j (suc d) (suc k) n text high low room =
    let more : j + suc (suc d) ≡ suc (j + suc d) = omega arith in
    let large : 16 ^ suc d ≤ n = low (omega arith) in
    let some : n / 16 ≡ 0 → ⊥ = λ none. omega (arith, one-le-pow d 16) in
    rw (more, ne_eqb (n / 16) 0 some)
    (without_zeros j d k (n / 16) (digit_glyph false (n % 16) ∷ text) (omega arith) (λ _. omega arith) (omega arith))

digits_by_count : (n : ℕ) → digits_onto 64 16 false n [] ≡ digits 16 false n
unfolding digits
digits_by_count n = refl

power : (k : ℕ) → 16 ^ k ≡ 2 ^ (k * 4)
power zero = refl
power (suc k) =
    let four : suc k * 4 ≡ suc (suc (suc (suc (k * 4)))) = omega arith in
    rw four (omega (arith, power k))

-- the text of the eight bytes after its leading zeros, each of four zero bits; n has d + 1 digits
pub hexadecimal_digits : (n : ℕ) → n < 2 ^ 64
    → drop (leading_zeros w64 (max n 1) / 4) (encode_lower (to_be_bytes w64 n)) ≡ digits 16 false n
hexadecimal_digits n fits =
    let top = leading_top 64 (max n 1) (omega arith) (omega arith) in
    let zeros : ℕ = leading_zeros w64 (max n 1) / 4 in
    let last : ℕ = top.0 in
    let d : ℕ = last / 4 in
    let all : 16 ≡ zeros + suc d = omega (arith, top.1) in
    let above : 2 ^ suc last ≤ 2 ^ (suc d * 4) = pow_mono (omega arith) in
    let below : 2 ^ (d * 4) ≤ 2 ^ last = pow_mono (omega arith) in
    let high : n < 16 ^ suc d = omega (arith, above, top.3, power (suc d)) in
    let low : 0 < d → 16 ^ d ≤ n = λ some. at_least n d last some below top.2 in
    ap (drop zeros) (sym (append-nil _) ∙ encoded 8 n [] ∙ ap (λ k. last_digits k n []) all)
    ∙ without_zeros zeros d 64 n [] high low (omega arith)
    ∙ digits_by_count n
  where
    at_least : (n d last : ℕ) → 0 < d → 2 ^ (d * 4) ≤ 2 ^ last → 2 ^ last ≤ max n 1 → 16 ^ d ≤ n
    at_least n d last some below top =
        let large : 2 ^ 4 ≤ 2 ^ (d * 4) = pow_mono {i = 4} (omega arith) in
        omega (arith, power d)

-- ---- `0x` over the last two leading zeros

prefixed : (first second start : ℕ) (text : List ℕ) → start ≤ length text
    → drop start (slice_set (slice_set (first ∷ second ∷ text) start 48) (start + 1) 120) ≡ 48 ∷ 120 ∷ drop start text
prefixed first second zero text within = refl
prefixed first second (suc start) [] within = absurd (omega arith)
prefixed first second (suc start) (c ∷ text) within =
    let e : suc start + 1 ≡ suc (start + 1) = omega arith in
    rw e (prefixed second c start text (omega arith))

-- what `write_hexadecimal` appends
pub hexadecimal_appended : (old new text : List ℕ) (word start : ℕ) → word < 2 ^ 64
    → start ≡ leading_zeros w64 (max word 1) / 4 → text ≡ encode_lower (to_be_bytes w64 word)
    → new ≡ old
    ++ take (18 - start) (drop start (slice_set (slice_set (0 ∷ 0 ∷ (text ++ [])) start 48) (start + 1) 120))
    → new ≡ old ++ (48 ∷ 120 ∷ digits 16 false word)
hexadecimal_appended old new text word start fits from is appended =
    let size : length text ≡ 16 = ap length is ∙ length-encode_with lower_digits (to_be_bytes w64 word) in
    let few : start ≤ 16 = omega (arith, leading_le 64 (max word 1)) in
    let long = length-drop start text in
    let rest : drop start text ≡ digits 16 false word = rw (from, is) (hexadecimal_digits word fits) in
    let whole : take (18 - start) (48 ∷ 120 ∷ drop start text) ≡ 48 ∷ 120 ∷ drop start text =
    take_all (18 - start) _ (omega arith) in
    appended ∙ rw (append-nil, prefixed 0 0 start text (omega arith), whole, rest) refl
