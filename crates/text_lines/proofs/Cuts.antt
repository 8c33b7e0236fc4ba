-- The first line of a text, and the first word of a line, cut off.
use Rattle.std.proofs.Common.{refl, ◌≡◌, ◌≢◌, ◌+◌, ◌-◌, ◌<◌, ◌≤◌, ◌∷◌, [], ℕ, zero, suc, Bool, true, false, List}
use Rattle.std.proofs.Common.{Option, Some, None, length, get_or, take, drop, filter, position, arith, cond, not, eqb}
use Rattle.std.proofs.Common.{lt-ltb, le-ltb, eqb-true, ap, sym, ◌∙◌, inl, inr, take_all, length-take, length-drop, min}
use Rattle.std.proofs.Common.{add-one, drop-cons}
use Rattle.std.specs.List.{onto_first, slice_split, position_or_len}
use Rattle.std.proofs.lemmas.Bool.{cases_lt, cases_order}
use Rattle.std.proofs.lemmas.List.Splits.{slice_split_first, slice_split_none, length-slice_split}
use Rattle.std.proofs.lemmas.List.Sums.{fails_before_first}
use Rattle.std.proofs.lemmas.List.Quantifiers.{position-Some}
use Rattle.memchr.specs.Find.{IsFirstByte}
use Rattle.text_lines.specs.Lines.{has_letters, lines_of, without_empty_end, words_in}

-- the first place, where there is one
pub place : (p : ℕ → Bool) (xs : List ℕ) (i : ℕ) → position p xs ≡ Some i
    → (position_or_len p xs ≡ i) × (position_or_len p xs < length xs)
place p xs i h =
    elim (cases_lt (position_or_len p xs) (length xs)) [
      | inl inside ↦ let is : position p xs ≡ Some (position_or_len p xs) = rw (lt-ltb _ _ inside) in
          (let same : Some (position_or_len p xs) ≡ Some i = sym is ∙ h in cc, inside)
      | inr past ↦ let is : position p xs ≡ None = rw (le-ltb _ _ past) in
          absurd (let clash : None ≡ Some i = sym is ∙ h in cc)
    ]

pub nowhere : (p : ℕ → Bool) (xs : List ℕ) → position p xs ≡ None → length xs ≤ position_or_len p xs
nowhere p xs h =
    elim (cases_lt (position_or_len p xs) (length xs)) [
      | inl inside ↦ let is : position p xs ≡ Some (position_or_len p xs) = rw (lt-ltb _ _ inside) in
          absurd (let clash : None ≡ Some (position_or_len p xs) = sym h ∙ is in cc)
      | inr past ↦ past
    ]

-- a list is cut at the first place
pub split_here : (p : ℕ → Bool) (xs : List ℕ) (i : ℕ) → position p xs ≡ Some i
    → slice_split p xs ≡ take i xs ∷ slice_split p (drop (i + 1) xs)
split_here p xs i h =
    let at = place p xs i h in
    slice_split_first p xs 0 at.1 ∙ ap (λ k. take k xs ∷ slice_split p (drop (k + 1) xs)) at.0

pub split_nowhere : (p : ℕ → Bool) (xs : List ℕ) → position p xs ≡ None → slice_split p xs ≡ xs ∷ []
split_nowhere p xs h =
    let past = nowhere p xs h in
    slice_split_none p xs (λ k d within. fails_before_first p xs k d (omega arith))

-- a part with others after it stays, empty or not
pub keeps_first : (part : List ℕ) (parts : List (List ℕ)) → 0 < length parts
    → without_empty_end (part ∷ parts) ≡ part ∷ without_empty_end parts
keeps_first part [] some = absurd (omega arith)
keeps_first part (next ∷ parts) some = refl

pub line_cut : (text : List ℕ) (i : ℕ) → position (λ b. eqb b 10) text ≡ Some i
    → lines_of text ≡ take i text ∷ lines_of (drop (i + 1) text)
line_cut text i h =
    ap without_empty_end (split_here (λ b. eqb b 10) text i h)
    ∙ keeps_first (take i text) (slice_split (λ b. eqb b 10) (drop (i + 1) text))
    (let some = length-slice_split (λ b. eqb b 10) (drop (i + 1) text) in omega arith)

pub line_last : (text : List ℕ) → position (λ b. eqb b 10) text ≡ None → 0 < length text → lines_of text ≡ text ∷ []
line_last [] h some = absurd (omega arith)
line_last (b ∷ bs) h some = ap without_empty_end (split_nowhere (λ b. eqb b 10) (b ∷ bs) h)

pub word_cut : (line : List ℕ) (i : ℕ) → position (λ b. eqb b 32) line ≡ Some i → get_or line 0 0 ≢ 32
    → words_in line ≡ take i line ∷ words_in (drop (i + 1) line)
word_cut line i h start =
    let at = position-Some (λ b. eqb b 32) line i 0 h in
    let some : 0 < i = elim (cases_order i 0) [
      | inl first ↦ absurd (start (ap (λ k. get_or line k 0) (sym first) ∙ eqb-true _ _ at.1))
      | inr (inl below) ↦ omega arith
      | inr (inr above) ↦ above
    ] in
    ap (filter has_letters) (split_here (λ b. eqb b 32) line i h)
    ∙ rw (lt-ltb 0 (length (take i line))
    (let size : length (take i line) ≡ min i (length line) = length-take i line in omega arith))

pub word_last : (line : List ℕ) → position (λ b. eqb b 32) line ≡ None → 0 < length line → words_in line ≡ line ∷ []
word_last [] h some = absurd (omega arith)
word_last (b ∷ bs) h some = ap (filter has_letters) (split_nowhere (λ b. eqb b 32) (b ∷ bs) h)
    ∙ rw (lt-ltb 0 (length (b ∷ bs)) some)

-- what is cut off after a place reaches to the end
pub whole_rest : (k : ℕ) (xs : List ℕ) → take (length xs - k) (drop k xs) ≡ drop k xs
whole_rest k xs = take_all (length xs - k) (drop k xs) (let size = length-drop k xs in omega arith)

-- ---- a line has no more words than bytes

kept : (b : ℕ) (bs : List ℕ) (parts : List (List ℕ))
    → filter has_letters ((b ∷ bs) ∷ parts) ≡ (b ∷ bs) ∷ filter has_letters parts
kept b bs parts = rw (lt-ltb 0 (length (b ∷ bs)) (omega arith))

counted : (b : ℕ) (bs : List ℕ) (parts : List (List ℕ))
    → length (filter has_letters ((b ∷ bs) ∷ parts)) ≡ suc (length (filter has_letters parts))
counted b bs parts = ap length (kept b bs parts)

more_letters : (b : ℕ) (parts : List (List ℕ))
    → length (filter has_letters (onto_first b parts)) ≤ length (filter has_letters parts) + 1
more_letters b [] = omega (arith, counted b [] [])
more_letters b ([] ∷ parts) = omega (arith, counted b [] parts)
more_letters b ((c ∷ cs) ∷ parts) = omega (arith, counted b (c ∷ cs) parts, counted c cs parts)

few_after : (b : ℕ) (space : Bool) (parts : List (List ℕ)) (n : ℕ) → length (filter has_letters parts) ≤ n
    → length (filter has_letters (cond space ([] ∷ parts) (onto_first b parts))) ≤ n + 1
few_after b true parts n few = omega (arith, few)
few_after b false parts n few = omega (arith, few, more_letters b parts)

few_words : (line : List ℕ) → length (words_in line) ≤ length line
few_words [] = omega arith
few_words (b ∷ bs) =
    omega (arith, few_after b (eqb b 32) (slice_split (λ b. eqb b 32) bs) (length bs) (few_words bs))

pub all_words : (line : List ℕ) → take (length line) (words_in line) ≡ words_in line
all_words line = take_all (length line) (words_in line) (few_words line)

-- ---- the next word

pub one_taken : (most : ℕ) (words after : List (List ℕ)) (word : List ℕ) → most ≢ 0 → words ≡ word ∷ after
    → take most words ≡ word ∷ take (most - 1) after
one_taken zero words after word some is = absurd (some refl)
one_taken (suc most) words after word some is =
    ap (take (suc most)) is ∙ ap (λ n. word ∷ take n after) (let same : most ≡ suc most - 1 = omega arith in same)

pub none_taken : (most : ℕ) (words : List (List ℕ)) → words ≡ [] → take most words ≡ []
none_taken zero words is = refl
none_taken (suc most) words is = ap (take (suc most)) is

pub ruleset taken = (one_taken, none_taken)

-- ---- the first byte that passes a test

not_true : (b : Bool) → (b ≡ true → ⊥) → b ≡ false
not_true true h = absurd (h refl)
not_true false h = refl

module _ {X : Type 0} (test : X → Bool) (d : X) where
  passes_at : (xs : List X) (end : ℕ) → end < length xs → ((k : ℕ) → k < end → test (get_or xs k d) ≡ false)
      → test (get_or xs end d) ≡ true → position_or_len test xs ≡ end
  passes_at [] end within none is = absurd (omega arith)
  passes_at (x ∷ xs) zero within none is = ap (λ c. cond (not c) (1 + position_or_len test xs) 0) is
  passes_at (x ∷ xs) (suc end) within none is =
      let step : position_or_len test (x ∷ xs) ≡ 1 + position_or_len test xs =
      ap (λ c. cond (not c) (1 + position_or_len test xs) 0) (none 0 (omega arith)) in
      omega (arith, step, passes_at xs end (omega arith) (λ k l. none (suc k) (omega arith)) is)

  passes_nowhere : (xs : List X) → ((k : ℕ) → k < length xs → test (get_or xs k d) ≡ false)
      → position_or_len test xs ≡ length xs
  passes_nowhere [] none = refl
  passes_nowhere (x ∷ xs) none =
      let step : position_or_len test (x ∷ xs) ≡ 1 + position_or_len test xs =
      ap (λ c. cond (not c) (1 + position_or_len test xs) 0) (none 0 (omega arith)) in
      omega (arith, step, passes_nowhere xs (λ k l. none (suc k) (omega arith)))

  pub first_at : (xs : List X) (end : ℕ) → end < length xs → ((k : ℕ) → k < end → test (get_or xs k d) ≡ false)
      → test (get_or xs end d) ≡ true → position test xs ≡ Some end
  first_at xs end within none is =
      let here = passes_at xs end within none is in
      rw (lt-ltb (position_or_len test xs) (length xs) (omega (arith, here))) (ap Some here)

  pub first_nowhere : (xs : List X) → ((k : ℕ) → k < length xs → test (get_or xs k d) ≡ false)
      → position test xs ≡ None
  first_nowhere xs none =
      let nowhere = passes_nowhere xs none in
      rw (le-ltb (position_or_len test xs) (length xs) (omega (arith, nowhere)))

pub none_of_more : {X : Type 0} (test : X → Bool) (d : X) (xs : List X) (next : X) (count : ℕ)
    → ((k : ℕ) → k < count → test (get_or xs k d) ≡ false) → get_or xs count d ≡ next → test next ≡ false
    → (k : ℕ) → k < count + 1 → test (get_or xs k d) ≡ false
none_of_more test d xs next count others here other k below =
    elim (cases_order k count) [
      | inl same ↦ ap (λ k. test (get_or xs k d)) same ∙ ap test here ∙ other
      | inr (inl before) ↦ others k before
      | inr (inr after) ↦ absurd (omega arith)
    ]

pub first_is : (test : ℕ → Bool) (text : List ℕ) (found : Option ℕ) → IsFirstByte test text found
    → found ≡ position test text
first_is test text None none =
    sym (first_nowhere test 0 text (λ k l. not_true (test (get_or text k 0)) (none k (omega arith) l)))
first_is test text (Some end) at =
    sym (first_at test 0 text end at.0.high
    (λ k l. not_true (test (get_or text k 0)) (at.0.before k (omega arith) l)) at.1)

-- ---- a word of a list that is taken off its front

pub at_front : {X : Type 0} (xs rest : List X) (x d : X) (i : ℕ) → drop i xs ≡ x ∷ rest
    → (i < length xs) × (get_or xs i d ≡ x) × (drop (i + 1) xs ≡ rest)
at_front xs rest x d i is =
    let size = length-drop i xs in
    let long = ap length is in
    let within : i < length xs = omega (arith, size, long) in
    let same : get_or xs i d ∷ drop (suc i) xs ≡ x ∷ rest = sym (drop-cons xs i d within) ∙ is in
    let head : get_or xs i d ≡ x = cc in
    let tail : drop (suc i) xs ≡ rest = cc in
    (within, head, ap (λ k. drop k xs) (add-one i) ∙ tail)

pub first_of_first : {X : Type 0} (i n : ℕ) (xs : List X) → i ≤ n → take i (take n xs) ≡ take i xs
first_of_first zero n xs few = refl
first_of_first (suc i) zero xs few = absurd (omega arith)
first_of_first (suc i) (suc n) [] few = refl
first_of_first (suc i) (suc n) (x ∷ xs) few = ap (λ ys. x ∷ ys) (first_of_first i n xs (omega arith))

pub ruleset cut_steps = (line_cut, line_last, whole_rest)

pub ruleset word_steps = (word_cut, word_last, whole_rest)
