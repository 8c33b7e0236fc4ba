-- Bytes that are compared at once: what comes before the first space among them, and in the whole line.
use Rattle.std.proofs.Common.{◌≡◌, ◌∙◌, ◌+◌, ◌<◌, ◌≤◌, ℕ, Bool, List, Some, None, ap, arith, cond, drop, eqb, length}
use Rattle.std.proofs.Common.{length-drop, length-take, lt-ltb, le-ltb, min, not, position, take}
use Rattle.std.specs.List.{position_or_len}
use Rattle.std.proofs.lemmas.Bool.{cond-false, cond-true, eq-eqb, ne_eqb}
use Rattle.std.proofs.lemmas.List.Folds.{prefix_len-append}
use Rattle.std.proofs.lemmas.List.Sums.{prefix_len-le-length}
use Rattle.std.proofs.lemmas.Simd.{chunk-drop}
use Rattle.text_lines.proofs.Cuts.{nowhere, place}

abbrev pub is_space : ℕ → Bool
is_space b = eqb b 32

pub eight : (line : List ℕ) → 8 ≤ length line → length (take 8 line) ≡ 8
eight line long = let taken : length (take 8 line) ≡ min 8 (length line) = length-take 8 line in omega (arith, taken, long)

-- of the whole line: what comes before a space among the first bytes, or after them
whole : (line : List ℕ) → 8 ≤ length line
    → position_or_len is_space line
    ≡ cond (eqb (position_or_len is_space (take 8 line)) 8) (8 + position_or_len is_space (drop 8 line))
    (position_or_len is_space (take 8 line))
whole line long =
    let first = take 8 line in
    let before = position_or_len is_space first in
    ap (position_or_len is_space) (chunk-drop 0 8 line)
    ∙ prefix_len-append (λ b. not (is_space b)) first (drop 8 line)
    ∙ ap (λ n. cond (eqb before n) (n + position_or_len is_space (drop 8 line)) before) (eight line long)

pub near : (line : List ℕ) → 8 ≤ length line → position_or_len is_space (take 8 line) < 8
    → position is_space line ≡ Some (position_or_len is_space (take 8 line))
near line long less =
    let before = position_or_len is_space (take 8 line) in
    let is = whole line long ∙ cond-false _ _ _ (ne_eqb before 8 (λ same. omega (arith, less, same))) in
    rw is (rw (lt-ltb before (length line) (omega (arith, less, long))))

past : (line : List ℕ) → 8 ≤ length line → 8 ≤ position_or_len is_space (take 8 line)
    → position_or_len is_space line ≡ 8 + position_or_len is_space (drop 8 line)
past line long none =
    let before = position_or_len is_space (take 8 line) in
    let most = prefix_len-le-length (λ b. not (is_space b)) (take 8 line) in
    whole line long ∙ cond-true _ _ _ (eq-eqb before 8 (omega (arith, none, most, eight line long)))

pub far : (line : List ℕ) (i : ℕ) → 8 ≤ length line → 8 ≤ position_or_len is_space (take 8 line)
    → position is_space (drop 8 line) ≡ Some i → position is_space line ≡ Some (8 + i)
far line i long none h =
    let at = place is_space (drop 8 line) i h in
    let is = past line long none ∙ ap (λ n. 8 + n) at.0 in
    rw is (rw (lt-ltb (8 + i) (length line) (omega (arith, at.0, at.1, long, length-drop 8 line))))

pub nowhere_at_all : (line : List ℕ) → 8 ≤ length line → 8 ≤ position_or_len is_space (take 8 line)
    → position is_space (drop 8 line) ≡ None → position is_space line ≡ None
nowhere_at_all line long none h =
    let after = nowhere is_space (drop 8 line) h in
    let is = past line long none in
    rw (le-ltb (position_or_len is_space line) (length line) (omega (arith, is, after, long, length-drop 8 line)))
