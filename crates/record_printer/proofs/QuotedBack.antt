-- A text in quotes is read back: the byte of an escape, and then the others up to the closing quote.
use Rattle.std.proofs.Common.{◌≡◌, ◌<◌, ◌+◌, ◌-◌, ◌*◌, ◌/◌, ◌%◌, ◌==◌, ◌&&◌, ◌++◌, ◌∷◌, [], ℕ, Bool, true, false}
use Rattle.std.proofs.Common.{List, Option, Some, None, nat_lt, codes, if◌then◌else◌, refl, sym, ap, ◌∙◌}
use Rattle.std.proofs.Common.{append_assoc, arith, drop}
use Rattle.std.specs.Option.{unwrap_or}
use Rattle.std.specs.List.{All, flat_map}
use Rattle.std.proofs.lemmas.List.Elements.{All-head, All-tail}
use borrow.Author.Tests.{eqb-true, lt-ltb}
use Rattle.record_printer.specs.Quote.{escaped, is_printed, octal, quoted, shortened}

-- ---- the first byte of a text, and the text after it

-- the byte that a letter after a backslash stands for
abbrev letter : ℕ → ℕ
letter c =
    if c == 110 then 10
    else if c == 116 then 9
    else if c == 118 then 11
    else if c == 102 then 12
    else if c == 114 then 13
    else c

abbrev three_digits : ℕ → List ℕ → Option (ℕ × List ℕ)
three_digits c [] = None
three_digits c (d ∷ []) = None
three_digits c (d ∷ e ∷ rest) = Some ((c - 48) * 64 + (d - 48) * 8 + (e - 48), rest)

abbrev is_octal : ℕ → Bool
is_octal c = nat_lt 47 c && nat_lt c 52

abbrev after_backslash : List ℕ → Option (ℕ × List ℕ)
after_backslash [] = None
after_backslash (c ∷ rest) = if is_octal c then three_digits c rest else Some (letter c, rest)

-- a quote ends the text
abbrev first_byte : List ℕ → Option (ℕ × List ℕ)
first_byte [] = None
first_byte (c ∷ rest) = if c == 34 then None else if c == 92 then after_backslash rest else Some (c, rest)

-- ---- the escape of a byte is read as that byte

one_test : (byte c : ℕ) (text other rest : List ℕ)
    → (byte ≡ c → first_byte (text ++ rest) ≡ Some (byte, rest))
    → ((byte == c) ≡ false → first_byte (other ++ rest) ≡ Some (byte, rest))
    → first_byte ((if byte == c then text else other) ++ rest) ≡ Some (byte, rest)
one_test byte c text other rest same apart = by (byte == c) refl
  where
    by : (t : Bool) → (byte == c) ≡ t → first_byte ((if t then text else other) ++ rest) ≡ Some (byte, rest)
    by true e = same (eqb-true byte c e)
    by false e = apart e

plain_byte : (byte : ℕ) (rest : List ℕ) → (byte == 34) ≡ false → (byte == 92) ≡ false
    → first_byte (byte ∷ rest) ≡ Some (byte, rest)
plain_byte byte rest no_quote no_backslash =
    ap (λ (t : Bool). if t then None else if byte == 92 then after_backslash rest else Some (byte, rest)) no_quote
    ∙ ap (λ (t : Bool). if t then after_backslash rest else Some (byte, rest)) no_backslash

octal_byte : (byte : ℕ) (rest : List ℕ) → byte < 256 → first_byte (octal byte ++ rest) ≡ Some (byte, rest)
octal_byte byte rest small =
    let c = 48 + byte / 64 in
    let low = lt-ltb 47 c (omega arith) in
    let high = lt-ltb c 52 (omega arith) in
    let value : (c - 48) * 64 + (48 + byte / 8 % 8 - 48) * 8 + (48 + byte % 8 - 48) ≡ byte = omega arith in
    ap (λ (t : Bool). if t && nat_lt c 52
    then three_digits c ((48 + byte / 8 % 8) ∷ (48 + byte % 8) ∷ rest)
    else Some (letter c, (48 + byte / 8 % 8) ∷ (48 + byte % 8) ∷ rest)) low
    ∙ ap (λ (t : Bool). if t
    then three_digits c ((48 + byte / 8 % 8) ∷ (48 + byte % 8) ∷ rest)
    else Some (letter c, (48 + byte / 8 % 8) ∷ (48 + byte % 8) ∷ rest)) high
    ∙ ap (λ (n : ℕ). Some (n, rest)) value

last_test : (byte : ℕ) (rest : List ℕ) → byte < 256 → (byte == 34) ≡ false → (byte == 92) ≡ false
    → first_byte ((if is_printed byte then byte ∷ [] else octal byte) ++ rest) ≡ Some (byte, rest)
last_test byte rest small no_quote no_backslash = by (is_printed byte)
  where
    by : (t : Bool) → first_byte ((if t then byte ∷ [] else octal byte) ++ rest) ≡ Some (byte, rest)
    by true = plain_byte byte rest no_quote no_backslash
    by false = octal_byte byte rest small

abbrev read : List ℕ → ℕ → Option (ℕ × List ℕ)
read rest byte = Some (byte, rest)

escape_back : (byte : ℕ) (rest : List ℕ) → byte < 256 → first_byte (escaped byte ++ rest) ≡ Some (byte, rest)
unfolding escaped
escape_back byte rest small =
    one_test byte 10 (codes "\\n") _ rest (λ e. ap (read rest) (sym e)) (λ a.
    one_test byte 9 (codes "\\t") _ rest (λ e. ap (read rest) (sym e)) (λ b.
    one_test byte 11 (codes "\\v") _ rest (λ e. ap (read rest) (sym e)) (λ c.
    one_test byte 12 (codes "\\f") _ rest (λ e. ap (read rest) (sym e)) (λ d.
    one_test byte 13 (codes "\\r") _ rest (λ e. ap (read rest) (sym e)) (λ f.
    one_test byte 34 (codes "\\\"") _ rest (λ e. ap (read rest) (sym e)) (λ no_quote.
    one_test byte 92 (codes "\\\\") _ rest (λ e. ap (read rest) (sym e)) (λ no_backslash.
    last_test byte rest small no_quote no_backslash)))))))

-- ---- a text up to its closing quote is read as its bytes

abbrev IsByte : ℕ → Type 0
IsByte n = n < 256

first_back : (x : ℕ) (xs rest : List ℕ) → x < 256
    → first_byte (flat_map escaped (x ∷ xs) ++ rest) ≡ Some (x, flat_map escaped xs ++ rest)
first_back x xs rest small =
    ap first_byte (append_assoc (escaped x) (flat_map escaped xs) rest) ∙ escape_back x (flat_map escaped xs ++ rest) small

no_end : (rest : List ℕ) (byte : ℕ) (o : Option (ℕ × List ℕ)) → o ≡ None → o ≡ read rest byte → ⊥
no_end rest byte o none some = cc

pub text_back : (a b s t : List ℕ) → All (λ n. n < 256) a → All (λ n. n < 256) b
    → flat_map escaped a ++ 34 ∷ s ≡ flat_map escaped b ++ 34 ∷ t → (a ≡ b) × (s ≡ t)
text_back [] [] s t small_a small_b same = (refl, cc)
text_back [] (y ∷ ys) s t small_a small_b same =
    absurd (no_end (flat_map escaped ys ++ 34 ∷ t) y _ refl
    (ap first_byte same ∙ first_back y ys (34 ∷ t) (All-head IsByte y ys small_b)))
text_back (x ∷ xs) [] s t small_a small_b same =
    absurd (no_end (flat_map escaped xs ++ 34 ∷ s) x _ refl
    (ap first_byte (sym same) ∙ first_back x xs (34 ∷ s) (All-head IsByte x xs small_a)))
text_back (x ∷ xs) (y ∷ ys) s t small_a small_b same =
    let both : read (flat_map escaped xs ++ 34 ∷ s) x ≡ read (flat_map escaped ys ++ 34 ∷ t) y =
    sym (first_back x xs (34 ∷ s) (All-head IsByte x xs small_a)) ∙ ap first_byte same
    ∙ first_back y ys (34 ∷ t) (All-head IsByte y ys small_b) in
    let pair = ap (λ (o : Option (ℕ × List ℕ)). unwrap_or o (0, [])) both in
    let rest = text_back xs ys s t (All-tail IsByte x xs small_a) (All-tail IsByte y ys small_b) (ap (λ p. p.1) pair) in
    (λ i. (pair i).0 ∷ rest.0 i, rest.1)

dots_back : (more less : Bool) → (if more then codes "..." else []) ≡ (if less then codes "..." else []) → more ≡ less
dots_back true true same = refl
dots_back false false same = refl
dots_back true false same = cc
dots_back false true same = cc

pub shortened_back : (more less : Bool) (a b : List ℕ) → All (λ n. n < 256) a → All (λ n. n < 256) b
    → shortened more a ≡ shortened less b → (more ≡ less) × (a ≡ b)
shortened_back more less a b small_a small_b same =
    let dots : Bool → List ℕ = λ t. if t then codes "..." else [] in
    let shape : (xs d : List ℕ) → quoted xs ++ d ≡ 34 ∷ (flat_map escaped xs ++ 34 ∷ d) =
    λ xs d. ap (λ text. 34 ∷ text) (append_assoc (flat_map escaped xs) (34 ∷ []) d) in
    let inside : flat_map escaped a ++ 34 ∷ dots more ≡ flat_map escaped b ++ 34 ∷ dots less =
    ap (λ text. drop 1 text) (sym (shape a (dots more)) ∙ same ∙ shape b (dots less)) in
    let back = text_back a b (dots more) (dots less) small_a small_b inside in
    (dots_back more less back.1, back.0)
