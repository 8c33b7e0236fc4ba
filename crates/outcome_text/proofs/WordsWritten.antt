-- Words that were written one after another are the text of all of them.
use Rattle.std.proofs.Common.{refl, ◌≡◌, ◌++◌, ◌∷◌, ◌∙◌, [], ℕ, List, OnOk, Result, ap, append-nil, append_assoc}
use Rattle.std.proofs.Common.{subst, sym}
use Rattle.std.specs.List.{join_with_byte}
use Rattle.text_lines.specs.Lines.{line_text}
use Rattle.outcome_text.specs.SpacedWords.{spaced}

-- after the first word each has a space before it
pub joined : (first : List ℕ) (words : List (List ℕ)) → join_with_byte 32 (first ∷ words) ≡ first ++ spaced words
joined first [] = sym (append-nil first)
joined first (next ∷ words) = ap (λ t. first ++ 32 ∷ t) (joined next words)

pub spaced-append : (front rest : List (List ℕ)) → spaced (front ++ rest) ≡ spaced front ++ spaced rest
spaced-append [] rest = refl
spaced-append (word ∷ front) rest =
    ap (λ t. 32 ∷ (word ++ t)) (spaced-append front rest)
    ∙ ap (λ t. 32 ∷ t) (sym (append_assoc word (spaced front) (spaced rest)))

-- the words after those of a text
more_words : (old first : List ℕ) (front rest : List (List ℕ))
    → (old ++ (first ++ spaced front)) ++ spaced rest ≡ old ++ (first ++ spaced (front ++ rest))
more_words old first front rest =
    append_assoc old (first ++ spaced front) (spaced rest)
    ∙ ap (λ t. old ++ t) (append_assoc first (spaced front) (spaced rest))
    ∙ ap (λ t. old ++ (first ++ t)) (sym (spaced-append front rest))

pub in_words : (old first : List ℕ) (front rest : List (List ℕ)) (between new : List ℕ)
    → between ≡ old ++ (first ++ spaced front) → new ≡ between ++ spaced rest
    → new ≡ old ++ (first ++ spaced (front ++ rest))
in_words old first front rest between new begun ended =
    ended ∙ ap (λ t. t ++ spaced rest) begun ∙ more_words old first front rest

-- a call's words, written at once, and in two parts
pub words_written : {T E : Type 0} (result : Result T E) (old first new : List ℕ) (rest words : List (List ℕ))
    → words ≡ first ∷ rest → OnOk result (new ≡ old ++ (first ++ spaced rest))
    → OnOk result (new ≡ old ++ join_with_byte 32 words)
words_written {T} {E} result old first new rest words are wrote =
    let P : List ℕ → Type 0 = λ t. OnOk result (new ≡ old ++ t) in
    subst P (sym (ap (join_with_byte 32) are ∙ joined first rest)) wrote

pub parts_written : {T E : Type 0} (result : Result T E) (old first between new : List ℕ)
    (front rest words : List (List ℕ)) → words ≡ first ∷ (front ++ rest)
    → between ≡ old ++ (first ++ spaced front) → OnOk result (new ≡ between ++ spaced rest)
    → OnOk result (new ≡ old ++ join_with_byte 32 words)
parts_written {T} {E} result old first between new front rest words are begun wrote =
    let P : List ℕ → Type 0 = λ t. OnOk result (new ≡ t) in
    words_written result old first new (front ++ rest) words are
    (subst P (ap (λ t. t ++ spaced rest) begun ∙ more_words old first front rest) wrote)

-- the line of a command whose words are those of a call
pub line_written : (old between new : List ℕ) (said words : List (List ℕ)) → said ≡ words
    → between ≡ old ++ join_with_byte 32 said → new ≡ between ++ 10 ∷ [] → new ≡ old ++ line_text words
line_written old between new said words same begun ended =
    ended ∙ ap (λ t. t ++ 10 ∷ []) (begun ∙ ap (λ ws. old ++ join_with_byte 32 ws) same)
    ∙ append_assoc old (join_with_byte 32 words) (10 ∷ [])
