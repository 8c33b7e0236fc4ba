-- Words, joined by spaces and ended by a line feed, are cut again where they were joined.
use Rattle.std.proofs.Common.{refl, ◌≡◌, ◌<◌, ◌≤◌, ◌++◌, ◌∷◌, [], ℕ, Bool, true, false, ◌&&◌, nat_lt, List, filter}
use Rattle.std.proofs.Common.{arith, eqb, ne_eqb, ltb-true, append_assoc, ap, ◌∙◌, lit≤}
use Rattle.std.proofs.lemmas.Bool.{and_parts}
use Rattle.std.proofs.lemmas.List.Elements.{All-nil, All-cons, All-append}
use Rattle.std.proofs.lemmas.List.Splits.{slice_split_at, slice_split_none, length-slice_split}
use Rattle.std.specs.List.{All, join_with_byte, slice_split}
use Rattle.text_lines.specs.Lines.{has_letters, line_text, lines_of, without_empty_end, words_in}
use Rattle.text_lines.proofs.Cuts.{keeps_first}

-- above the line feed and the space
abbrev pub all_above : List ℕ → Bool
all_above [] = true
all_above (b ∷ bs) = nat_lt 32 b && all_above bs

abbrev pub is_word : List ℕ → Bool
is_word word = has_letters word && all_above word

abbrev pub AreWords : List (List ℕ) → Type 0
AreWords [] = Unit {0}
AreWords (word ∷ words) = (is_word word ≡ true) × AreWords words

lacks : (c : ℕ) → c ≤ 32 → (word : List ℕ) → all_above word ≡ true → All (λ b. eqb b c ≡ false) word
lacks c small [] h = All-nil (λ b. eqb b c ≡ false)
lacks c small (b ∷ bs) h =
    let parts = and_parts (nat_lt 32 b) (all_above bs) h in
    let above : 32 < b = ltb-true 32 b parts.0 in
    All-cons (λ b. eqb b c ≡ false) b bs (ne_eqb b c (λ e. omega arith)) (lacks c small bs parts.1)

word_parts : (word : List ℕ) → is_word word ≡ true → (has_letters word ≡ true) × (all_above word ≡ true)
word_parts word h = let parts = and_parts (has_letters word) (all_above word) h in (parts.0, parts.1)

kept : (word : List ℕ) (parts : List (List ℕ)) → has_letters word ≡ true
    → filter has_letters (word ∷ parts) ≡ word ∷ filter has_letters parts
kept word parts h = rw h

-- a line ends at its line feed
pub line_ended : (line rest : List ℕ) → All (λ b. eqb b 10 ≡ false) line
    → lines_of (line ++ 10 ∷ rest) ≡ line ∷ lines_of rest
line_ended line rest h =
    ap without_empty_end (slice_split_at (λ b. eqb b 10) line 10 rest h refl)
    ∙ keeps_first line (slice_split (λ b. eqb b 10) rest)
    (let some = length-slice_split (λ b. eqb b 10) rest in omega arith)

pub words_in_line : (words : List (List ℕ)) → AreWords words → All (λ b. eqb b 10 ≡ false) (join_with_byte 32 words)
words_in_line [] h = All-nil (λ b. eqb b 10 ≡ false)
words_in_line (word ∷ []) h = lacks 10 (lit≤ tt) word (word_parts word h.0).1
words_in_line (word ∷ next ∷ words) h =
    All-append (λ b. eqb b 10 ≡ false) word (32 ∷ join_with_byte 32 (next ∷ words))
    (lacks 10 (lit≤ tt) word (word_parts word h.0).1)
    (All-cons (λ b. eqb b 10 ≡ false) 32 (join_with_byte 32 (next ∷ words)) refl (words_in_line (next ∷ words) h.1))

-- words joined by spaces are those words
pub words_joined : (words : List (List ℕ)) → AreWords words → words_in (join_with_byte 32 words) ≡ words
words_joined [] h = refl
words_joined (word ∷ []) h =
    let parts = word_parts word h.0 in
    ap (filter has_letters) (slice_split_none (λ b. eqb b 32) word (lacks 32 (lit≤ tt) word parts.1))
    ∙ kept word [] parts.0
words_joined (word ∷ next ∷ words) h =
    let parts = word_parts word h.0 in
    ap (filter has_letters)
    (slice_split_at (λ b. eqb b 32) word 32 (join_with_byte 32 (next ∷ words)) (lacks 32 (lit≤ tt) word parts.1)
    refl)
    ∙ kept word (slice_split (λ b. eqb b 32) (join_with_byte 32 (next ∷ words))) parts.0
    ∙ ap (λ ws. word ∷ ws) (words_joined (next ∷ words) h.1)

-- words as a line are the first line
pub line_spelled : (words : List (List ℕ)) (rest : List ℕ) → AreWords words
    → lines_of (line_text words ++ rest) ≡ join_with_byte 32 words ∷ lines_of rest
line_spelled words rest are =
    ap lines_of (append_assoc (join_with_byte 32 words) (10 ∷ []) rest)
    ∙ line_ended (join_with_byte 32 words) rest (words_in_line words are)
