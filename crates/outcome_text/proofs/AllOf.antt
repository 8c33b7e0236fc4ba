-- Whether each number of a range passes a test, one by one; and what it says of each.
use Rattle.std.proofs.Common.{refl, ◌≡◌, ◌<◌, ◌≤◌, ◌+◌, ◌-◌, ℕ, suc, zero, Bool, true, false, arith, ◌∙◌, ap, subst, inl, inr}
use Rattle.std.specs.List.{list_all, range_with_len}
use Rattle.std.proofs.lemmas.Bool.{and_from, and_parts, cases_eq}
use Rattle.stop_program.proofs.AnyRow.{range_next}

pub all_here : (test : ℕ → Bool) (i n : ℕ) → i < n → test i ≡ false → list_all test (range_with_len i (n - i)) ≡ false
all_here test i n h fails = ap (list_all test) (range_next i n h) ∙ rw fails

pub all_later : (test : ℕ → Bool) (i n : ℕ) → i < n → test i ≡ true
    → list_all test (range_with_len i (n - i)) ≡ list_all test (range_with_len (i + 1) (n - (i + 1)))
all_later test i n h passes = ap (list_all test) (range_next i n h) ∙ rw passes

none_left : (i n : ℕ) → n ≤ i → n - i ≡ 0
none_left i n h = omega arith

pub all_over : (test : ℕ → Bool) (i n : ℕ) → n ≤ i → list_all test (range_with_len i (n - i)) ≡ true
all_over test i n h = ap (λ k. list_all test (range_with_len i k)) (none_left i n h)

pub ruleset all_steps = (all_here, all_later, all_over)

pub passes_at : (test : ℕ → Bool) (a n : ℕ) → list_all test (range_with_len a n) ≡ true → (k : ℕ) → a ≤ k → k < a + n
    → test k ≡ true
passes_at test a zero all k low high = absurd (omega arith)
passes_at test a (suc n) all k low high =
    let both = and_parts (test a) (list_all test (range_with_len (a + 1) n)) all in
    elim (cases_eq a k) as (λ _. test k ≡ true) [
      | inl same ↦ subst (λ m. test m ≡ true) same both.0
      | inr apart ↦ passes_at test (a + 1) n both.1 k (omega arith) (omega arith)
    ]

pub all_pass : (test : ℕ → Bool) (a n : ℕ) → ((k : ℕ) → a ≤ k → k < a + n → test k ≡ true)
    → list_all test (range_with_len a n) ≡ true
all_pass test a zero each = refl
all_pass test a (suc n) each =
    and_from (test a) (list_all test (range_with_len (a + 1) n)) (each a (omega arith) (omega arith))
    (all_pass test (a + 1) n (λ k low high. each k (omega arith) (omega arith)))
