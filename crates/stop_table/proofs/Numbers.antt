-- Lists of numbers of which none stands twice: ranges, filters, and how many there are.
use Rattle.std.proofs.Common.{refl, ◌≡◌, ◌<◌, ◌≤◌, ◌+◌, ◌∷◌, ◌&&◌, ◌==◌, [], ℕ, zero, suc, Bool, true, false, List}
use Rattle.std.proofs.Common.{length, get_or, arith, ◌∙◌, sym, ap, inl, inr, eq-eqb, ne_eqb, eqb-true, cond}
use Rattle.std.proofs.lemmas.Bool.{and_from, and_parts, and_right, cases_Bool, cases_eq, false≢true, or_cases, or_from}
use Rattle.std.proofs.lemmas.Bool.{or_left, or_right}
use Rattle.std.proofs.lemmas.List.Folds.{list_any_at}
use Rattle.std.proofs.lemmas.List.FromFn.{get_or-range_with_len, length-range_with_len}
use Rattle.std.proofs.lemmas.Map.Views.{any-filter_same}
use Rattle.std.specs.List.{filter, range_with_len}
use Rattle.stop_table.specs.Tracer.{AreApart}
use Rattle.stop_table.specs.View.{is_among}

-- ---- ranges

pub among_range : (count n : ℕ) → n < count → is_among n (range_with_len 0 count) ≡ true
among_range count n low =
    let long : n < length (range_with_len 0 count) = omega (arith, length-range_with_len 0 count) in
    let same : n ≡ get_or (range_with_len 0 count) n 0 = omega (arith, get_or-range_with_len 0 count n 0 low) in
    list_any_at (λ m. n == m) (range_with_len 0 count) n 0 long (eq-eqb n _ same)

below_range : (from count n : ℕ) → n < from → is_among n (range_with_len from count) ≡ false
below_range from zero n below = refl
below_range from (suc count) n below =
    or_from (n == from) (is_among n (range_with_len (from + 1) count)) (ne_eqb n from (λ same. absurd (omega arith)))
    (below_range (from + 1) count n (omega arith))

pub range_apart : (from count : ℕ) → AreApart (range_with_len from count)
range_apart from zero = tt
range_apart from (suc count) = (below_range (from + 1) count from (omega arith), range_apart (from + 1) count)

-- ---- filters

among_filter : (test : ℕ → Bool) (numbers : List ℕ) (n : ℕ)
    → is_among n (filter test numbers) ≡ (test n && is_among n numbers)
among_filter test numbers n =
    any-filter_same (λ m. n == m) test (test n) (λ m same. ap test (sym (eqb-true n m same))) numbers

filter_apart : (test : ℕ → Bool) (numbers : List ℕ) → AreApart numbers → AreApart (filter test numbers)
filter_apart test [] apart = tt
filter_apart test (x ∷ numbers) apart =
    elim (cases_Bool (test x)) [
      | inl passes ↦
          rw passes (
            among_filter test numbers x ∙ and_right (test x) (is_among x numbers) apart.0,
            filter_apart test numbers apart.1,
          )
      | inr fails ↦ rw fails (filter_apart test numbers apart.1)
    ]

-- ---- how many there are

-- without the first that is n
without : ℕ → List ℕ → List ℕ
without n [] = []
without n (x ∷ numbers) = cond (n == x) numbers (x ∷ without n numbers)

one_less : (n : ℕ) (numbers : List ℕ) → is_among n numbers ≡ true → length (without n numbers) + 1 ≡ length numbers
unfolding without
one_less n [] among = absurd (false≢true among)
one_less n (x ∷ numbers) among =
    elim (cases_eq n x) [
      | inl same ↦ rw (eq-eqb n x same) (omega arith)
      | inr other ↦
          (let later : is_among n numbers ≡ true = rw (ne_eqb n x other) at among in
          let less = one_less n numbers later in
          rw (ne_eqb n x other) (omega arith))
    ]

stays_among : (n m : ℕ) (numbers : List ℕ) → (m ≡ n → ⊥) → is_among m numbers ≡ true
    → is_among m (without n numbers) ≡ true
unfolding without
stays_among n m [] differs among = among
stays_among n m (x ∷ numbers) differs among =
    elim (cases_eq n x) [
      | inl same ↦
          rw (eq-eqb n x same)
          (let later : is_among m numbers ≡ true =
          rw (ne_eqb m x (λ is. differs (is ∙ sym same))) at among in later)
      | inr other ↦
          rw (ne_eqb n x other)
          (elim (or_cases (m == x) (is_among m numbers) among) [
            | inl here ↦ or_left (m == x) (is_among m (without n numbers)) here
            | inr later ↦
                or_right (m == x) (is_among m (without n numbers)) (stays_among n m numbers differs later)
          ])
    ]

-- numbers that stand apart are at most as many as a list in which each of them is
pub not_more : (numbers others : List ℕ) → AreApart numbers
    → ((n : ℕ) → is_among n numbers ≡ true → is_among n others ≡ true) → length numbers ≤ length others
not_more [] others apart inside = omega arith
not_more (x ∷ numbers) others apart inside =
    let there : is_among x others ≡ true =
    inside x (or_left (x == x) (is_among x numbers) (eq-eqb x x refl)) in
    let less = one_less x others there in
    let rest = not_more numbers (without x others) apart.1
    (λ n among. stays_among x n others
    (λ same. false≢true (sym apart.0 ∙ ap (λ m. is_among m numbers) (sym same) ∙ among))
    (inside n (or_right (n == x) (is_among n numbers) among))) in
    omega arith

-- numbers that stand apart, and are those below a bound that pass a test, are as many as the filter keeps of the range
pub as_many : (numbers : List ℕ) (test : ℕ → Bool) (bound : ℕ) → AreApart numbers
    → ((n : ℕ) → is_among n numbers ≡ true → (n < bound) × (test n ≡ true))
    → ((n : ℕ) → test n ≡ true → is_among n numbers ≡ true)
    → length numbers ≡ length (filter test (range_with_len 0 bound))
as_many numbers test bound apart pass all =
    let range = range_with_len 0 bound in
    let few = not_more numbers (filter test range) apart
    (λ n among. among_filter test range n
    ∙ and_from (test n) (is_among n range) (pass n among).1 (among_range bound n (pass n among).0)) in
    let many = not_more (filter test range) numbers (filter_apart test range (range_apart 0 bound))
    (λ n among. all n (and_parts (test n) (is_among n range) (sym (among_filter test range n) ∙ among)).0) in
    omega arith

-- numbers that stand apart below a bound are at most as many
pub few_below : (numbers : List ℕ) (bound : ℕ) → AreApart numbers → ((n : ℕ) → is_among n numbers ≡ true → n < bound)
    → length numbers ≤ bound
few_below numbers bound apart low =
    let few = not_more numbers (range_with_len 0 bound) apart (λ n among. among_range bound n (low n among)) in
    omega (arith, length-range_with_len 0 bound)
