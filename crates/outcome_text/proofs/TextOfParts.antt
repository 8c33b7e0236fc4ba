-- A text of parts, part after part.
use Rattle.std.proofs.Common.{refl, ◌≡◌, ◌∙◌, ◌<◌, ◌≤◌, ◌+◌, ◌++◌, ◌∷◌, [], ℕ, zero, suc, List, Option, Some, None, Bor}
use Rattle.std.proofs.Common.{Result, Ok, Err, IfErr, OnOk, ap, append_assoc, arith, drop, length, length-append}
use Rattle.std.proofs.Common.{append-nil, slice_index_or, subst, sym, take}
use Rattle.std.proofs.lemmas.List.{take-append-le}
use Rattle.std.proofs.Math.Seq.{take-append-add, take-length}
use native.Mathlib.Numerals.{unary_clauses}
use Rattle.std.specs.Io.KnownBytes.{Appends}
use Rattle.outcome_text.specs.CutOff.{IsBegun, IsCutOff, text_of_parts}

-- bytes that are written one after the other
pub appends_both : (old mid new : Option (List ℕ)) (first second : List ℕ) → Appends old mid first
    → Appends mid new second → Appends old new (first ++ second)
appends_both None mid new first second one two = tt
appends_both (Some xs) None new first second one two = absurd one
appends_both (Some xs) (Some ys) None first second one two = absurd two
appends_both (Some xs) (Some ys) (Some zs) first second one two =
    two ∙ ap (λ t. t ++ second) one ∙ append_assoc xs first second

-- the text from a part on is this part's, and that of the parts after it
text_suc : (parts : List (Bor (List ℕ))) (i : ℕ) (d : Bor (List ℕ)) → i < length parts
    → text_of_parts (drop i parts) ≡ (slice_index_or parts i d).now ++ text_of_parts (drop (suc i) parts)
text_suc [] i d less = absurd (omega (arith, less))
text_suc (x ∷ xs) zero d less = refl
text_suc (x ∷ xs) (suc i) d less =
    let shorter : i < length xs = omega (arith, less) in text_suc xs i d shorter

pub text_from : (parts : List (Bor (List ℕ))) (i : ℕ) (d : Bor (List ℕ)) → i < length parts
    → text_of_parts (drop i parts) ≡ (slice_index_or parts i d).now ++ text_of_parts (drop (i + 1) parts)
text_from parts i d less = simp unary_clauses (text_suc parts i d less)

-- a part that is cut off cuts off the whole text
pub cut_in_part : (written part rest text : List ℕ) (old mid new : Option (List ℕ))
    → written ++ (part ++ rest) ≡ text → Appends old mid written → IsCutOff mid new part → IsCutOff old new text
cut_in_part written part rest text old mid new whole before cut =
    let n = cut.0 in
    let within : n < length part = cut.1 in
    let size : length text ≡ length written + (length part + length rest) =
    sym (ap length whole) ∙ length-append written (part ++ rest)
    ∙ ap (λ l. length written + l) (length-append part rest) in
    let less : length written + n < length text = omega (arith, size, within) in
    let few : n ≤ length part = omega (arith, within) in
    let taken : take (length written + n) text ≡ written ++ take n part =
    sym (ap (take (length written + n)) whole) ∙ take-append-add written (part ++ rest) n
    ∙ ap (λ l. written ++ l) (take-append-le n part rest few) in (
      length written + n,
      less,
      subst (Appends old new) (sym taken) (appends_both old mid new written (take n part) before cut.2),
    )

-- ---- the same of a text that is said otherwise

pub written_as : {T E : Type 0} (result : Result T E) (old new : Option (List ℕ)) (said text : List ℕ) → said ≡ text
    → OnOk result (Appends old new said) → OnOk result (Appends old new text)
written_as {T} {E} result old new said text same wrote =
    let P : List ℕ → Type 0 = λ t. OnOk result (Appends old new t) in subst P same wrote

pub cut_off_as : {T E : Type 0} (result : Result T E) (old new : Option (List ℕ)) (said text : List ℕ) → said ≡ text
    → IfErr result (λ _. IsCutOff old new said) → IfErr result (λ _. IsCutOff old new text)
cut_off_as {T} {E} result old new said text same cut =
    let P : List ℕ → Type 0 = λ t. IfErr result (λ _. IsCutOff old new t) in subst P same cut

-- nothing of it was written
pub none_written : (contents : Option (List ℕ)) (old : List ℕ) (first : ℕ) (rest : List ℕ)
    → IsCutOff contents contents (old ++ first ∷ rest)
none_written None old first rest = (0, omega (arith, length-append old (first ∷ rest)), tt)
none_written (Some bytes) old first rest =
    (0, omega (arith, length-append old (first ∷ rest)), sym (append-nil bytes))

-- ---- whole or cut off, a beginning of the text is written

pub begun_by : {T E : Type 0} (result : Result T E) (old new : Option (List ℕ)) (text : List ℕ)
    → OnOk result (Appends old new text) → IfErr result (λ _. IsCutOff old new text) → IsBegun old new text
begun_by {T} {E} (Ok done) old new text whole cut =
    (length text, subst (Appends old new) (sym (take-length text)) whole)
begun_by {T} {E} (Err error) old new text whole cut = (cut.0, cut.2)

-- what holds, holds of an error
pub of_error : {T E A : Type 0} (result : Result T E) → A → IfErr result (λ _. A)
of_error {T} {E} {A} (Ok done) holds = tt
of_error {T} {E} {A} (Err error) holds = holds
