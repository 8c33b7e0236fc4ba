-- At most six words come before the first `=`.
use Rattle.std.proofs.Common.{◌≡◌, ◌∙◌, ◌++◌, ◌+◌, ◌<◌, ◌≤◌, ◌∷◌, [], ℕ, Bor, Err, List, None, Ok, Option, Some, ap}
use Rattle.std.proofs.Common.{arith, cond, false, get_or, le-leb, length, length-drop, length-set, map, nat_le, position, refl, slice_set, sym}
use Rattle.std.proofs.Common.{inl, inr, take, true}
use Rattle.std.proofs.lemmas.Bool.{cases_order}
use Rattle.std.proofs.lemmas.Bool.Decides.{nat_tests}
use Rattle.std.proofs.lemmas.List.{map-append, take_more, take_more_set}
use Rattle.std.proofs.lemmas.List.Quantifiers.{position-Some}
use Rattle.text_lines.proofs.Cuts.{at_front, first_at, first_nowhere, none_of_more}
use Rattle.text_lines.specs.declared.fault.LineFault.TheVariants.{UnknownWord}
use Rattle.text_lines.specs.Words.{words_left}
use Rattle.trace_script.specs.CaseLine.{few_before, is_equals}
use Rattle.trace_script.proofs.case.call.take_arguments.Goals as goal

-- where none of the first seven words is `=`, there are more than six before it
too_many : (words : List (List ℕ)) (place : Option ℕ) → position is_equals words ≡ place
    → ((k : ℕ) → k < 7 → is_equals (get_or words k []) ≡ false) → few_before place ≡ Err UnknownWord
too_many words None is none = refl
too_many words (Some n) is none =
    let at = position-Some is_equals words n [] is in
    elim (nat_le n 6) as (λ b. nat_le n 6 ≡ b → cond b (Ok n) (Err UnknownWord) ≡ Err UnknownWord) [
      | true ↦ λ few. let early : n < 7 = grind (arith, nat_tests) in
          absurd (let clash : true ≡ false = sym at.1 ∙ none n early in cc)
      | false ↦ λ many. refl
    ] refl

few_there : (count : ℕ) → count ≤ 6 → Ok count ≡ few_before (Some count)
few_there count few = rw (le-leb count 6 few)

below : (n m : ℕ) → n ≤ m → (n ≡ m → ⊥) → n < m
below n m few other =
    elim (cases_order n m) [
      | inl same ↦ absurd (other same)
      | inr (inl less) ↦ less
      | inr (inr more) ↦ absurd (omega arith)
    ]

one_more : (words : List (List ℕ)) (arguments : List (Bor (List ℕ))) (word : Bor (List ℕ)) (count : ℕ)
    → count < length arguments → count < length words → get_or words count [] ≡ word.now
    → map (λ (w : Bor (List ℕ)). w.now) (take count arguments) ≡ take count words
    → map (λ (w : Bor (List ℕ)). w.now) (take (count + 1) (slice_set arguments count word)) ≡ take (count + 1) words
one_more words arguments word count room within here kept =
    ap (map (λ (w : Bor (List ℕ)). w.now)) (take_more_set arguments count word room)
    ∙ map-append (λ (w : Bor (List ℕ)). w.now) (take count arguments) (word ∷ [])
    ∙ ap (λ ws. ws ++ word.now ∷ []) kept
    ∙ ap (λ w. take count words ++ w ∷ []) (sym here)
    ∙ sym (take_more words count [] within)

pub returns-then-is_equals : goal.returns-then-is_equals
returns-then-is_equals c =
    let words = words_left c.args.words.now in
    let count = c.loop-word.count in
    let front = at_front words (words_left c.next_word.new.self) c.in-Some.word.now [] count
    (sym c.loop-word.invariant.left ∙ c.in-Some.ensures) in
    let is = ap is_equals front.1 ∙ sym c.is_equals.ensures ∙ c.if-is_equals.true in
    let found = first_at is_equals [] words count front.0 c.loop-word.invariant.others is in
    record {
      count = few_there count c.loop-word.invariant.few ∙ sym (ap few_before found);
      arguments = c.loop-word.invariant.kept;
      after = sym front.2;
      within = c.loop-word.invariant.few;
    }

pub loop-word-preserved : goal.loop-word-preserved
loop-word-preserved c =
    let words = words_left c.args.words.now in
    let count = c.loop-word.count in
    let front = at_front words (words_left c.next_word.new.self) c.in-Some.word.now [] count
    (sym c.loop-word.invariant.left ∙ c.in-Some.ensures) in
    let room = below count 6 c.loop-word.invariant.few c.if-count-eq-MOST_ARGUMENTS.false in
    record {
      few = omega (arith, room);
      long = length-set c.loop-word.arguments count c.in-Some.word ∙ c.loop-word.invariant.long;
      left = sym front.2;
      others = none_of_more is_equals [] words c.in-Some.word.now count c.loop-word.invariant.others front.1
          (sym c.is_equals.ensures ∙ c.if-is_equals.false);
      kept = one_more words c.loop-word.arguments c.in-Some.word count
          (omega (arith, room, c.loop-word.invariant.long)) front.0 front.1 c.loop-word.invariant.kept;
    }

pub returns-clause-count : goal.returns-clause-count
returns-clause-count c =
    let words = words_left c.args.words.now in
    let none = ap (λ (ws : List (List ℕ)). length ws) (sym c.loop-word.invariant.left ∙ c.in_default.ensures.0) in
    let size = length-drop c.loop-word.count words in
    sym (ap few_before
    (first_nowhere is_equals [] words (λ k l. c.loop-word.invariant.others k (omega (arith, none, size, l)))))
