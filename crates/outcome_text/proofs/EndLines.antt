-- The lines of ends that are sorted by the number of their outcomes.
use Rattle.std.proofs.Common.{refl, ◌≡◌, ◌∙◌, ◌<◌, ◌≤◌, ◌++◌, ◌∷◌, ◌==◌, ◌&&◌, [], ℕ, zero, suc, Bool}
use Rattle.std.proofs.Common.{true, false, not, List, ap, append_assoc, arith, codes, cond, filter, flat_map, get_or}
use Rattle.std.proofs.Common.{inl, inr, le-ltb, length, lt-ltb, nat_lt, subst, sym}
use Rattle.std.specs.Cmp.{IsStrictWeakOrder}
use Rattle.std.specs.List.{All}
use Rattle.std.specs.List.Sorted.{IsPermutation, IsSortedBy, IsStableBy, ties}
use Rattle.std.specs.Ordering.{is_lt, nat_cmp}
use Rattle.std.specs.Prelude.{String}
use Rattle.std.specs.declared.cmp.Ordering.TheVariants.{Equal, Greater, Less}
use Rattle.std.proofs.lemmas.Bool.{cases_Bool, cases_lt, eqb-false, ne_eqb}
use Rattle.std.proofs.lemmas.Cmp.{nat_cmp_total, nat_eq_equiv}
use Rattle.std.proofs.lemmas.List.Elements.{All-cons, All-from_get_or, All-head, All-nil, All-tail}
use Rattle.std.proofs.lemmas.List.Elements.{All-weaker, filter_agree, filter_passes}
use Rattle.std.proofs.lemmas.List.Folds.{flat_map-map}
use Rattle.std.proofs.lemmas.List.Sorted.{All-permutation, IsStrictWeakOrder-flip, ranks_by, sorted_far}
use Rattle.std.proofs.lemmas.Map.Keys.{ge_from_not_lt}
use Rattle.outcome_text.specs.declared.end_tallies.Tally.{Tally}
use Rattle.outcome_text.specs.OutcomeEnds.{AreTallied, end_at, end_head, end_line, end_with_tally, ends_lines}
use Rattle.outcome_text.specs.OutcomeEnds.{entry_told, first_ends, lines_to}
use Rattle.outcome_text.specs.OutcomeEnds.{tallies_of, tally_line, tally_lines, tally_of}
use Rattle.outcome_text.proofs.EndTallies.{IsTallyWithin, tallies_within}

-- ---- an entry comes before those of fewer outcomes

abbrev pub count_of : {Z : Type 0} → String Z × Tally → ℕ
count_of entry = entry.1.count

abbrev pub comes_first : {Z : Type 0} → String Z × Tally → String Z × Tally → Bool
comes_first one other = is_lt (nat_cmp (count_of other) (count_of one))

pub first_orders : {Z : Type 0} → IsStrictWeakOrder (comes_first {Z = Z})
first_orders {Z} =
    let rising : String Z × Tally → String Z × Tally → Bool =
    λ one other. is_lt (nat_cmp (count_of one) (count_of other)) in
    IsStrictWeakOrder-flip rising (ranks_by nat_cmp_total (count_of {Z = Z}))

less_is : (less same : Bool) → is_lt (cond less Less (cond same Equal Greater)) ≡ less
less_is true same = refl
less_is false true = refl
less_is false false = refl

-- neither of two numbers is less where they are the same
tie_is : (a b : ℕ) → (not (is_lt (nat_cmp b a)) && not (is_lt (nat_cmp a b))) ≡ (b == a)
tie_is a b =
    (λ i. not (less_is (nat_lt b a) (b == a) i) && not (less_is (nat_lt a b) (a == b) i))
    ∙ elim (cases_lt b a) [
      | inl below ↦
          (λ i. not (lt-ltb b a below i) && not (nat_lt a b))
          ∙ sym (ne_eqb b a (λ is. omega (arith, below, is)))
      | inr not_below ↦ elim (cases_lt a b) [
        | inl above ↦
            (λ i. not (le-ltb b a not_below i) && not (lt-ltb a b above i))
            ∙ sym (ne_eqb b a (λ is. omega (arith, above, is)))
        | inr not_above ↦
            let same : b ≡ a = omega (arith, not_below, not_above) in
            (λ i. not (le-ltb b a not_below i) && not (le-ltb a b not_above i))
            ∙ subst (λ n. true ≡ (n == a)) (sym same) (sym (nat_eq_equiv.refl a))
      ]
    ]

-- ---- the lines of entries, those of most outcomes first

abbrev lines_at : {Z : Type 0} → (count : ℕ) → List (String Z × Tally) → List ℕ
lines_at count entries = flat_map (λ entry. cond (count_of entry == count) (end_line entry) []) entries

abbrev lines_down : {Z : Type 0} → (most : ℕ) → List (String Z × Tally) → List ℕ
lines_down zero entries = []
lines_down (suc fewer) entries = lines_at (suc fewer) entries ++ lines_down fewer entries

none_at : {Z : Type 0} (count : ℕ) (entries : List (String Z × Tally))
    → All (λ entry. (count_of entry == count) ≡ false) entries → lines_at count entries ≡ []
none_at count [] all = refl
none_at {Z} count (entry ∷ entries) all =
    let Other : String Z × Tally → Type 0 = λ entry. (count_of entry == count) ≡ false in
    let head = All-head Other entry entries all in
    let tail = none_at count entries (All-tail Other entry entries all) in
    λ i. cond (head i) (end_line entry) [] ++ tail i

none_down : (Z : Type 0) (most : ℕ) → lines_down {Z = Z} most [] ≡ []
none_down Z zero = refl
none_down Z (suc fewer) = none_down Z fewer

skipped : {Z : Type 0} (most : ℕ) (entry : String Z × Tally) (entries : List (String Z × Tally)) → most < count_of entry
    → lines_down most (entry ∷ entries) ≡ lines_down most entries
skipped zero entry entries more = refl
skipped (suc fewer) entry entries more =
    let other = ne_eqb (count_of entry) (suc fewer) (λ is. omega (arith, more, is)) in
    let rest = skipped fewer entry entries (omega (arith, more)) in
    λ i. (cond (other i) (end_line entry) [] ++ lines_at (suc fewer) entries) ++ rest i

clash : true ≡ false → ⊥
clash is = cc

eqb_same : (a b : ℕ) → (a == b) ≡ true → a ≡ b
eqb_same a b is = elim (cases_lt a b) [
  | inl below ↦ absurd (clash (sym is ∙ ne_eqb a b (λ same. omega (arith, below, same))))
  | inr not_below ↦ elim (cases_lt b a) [
    | inl above ↦ absurd (clash (sym is ∙ ne_eqb a b (λ same. omega (arith, above, same))))
    | inr not_above ↦ omega (arith, not_below, not_above)
  ]
]

below_by : (a n : ℕ) → a ≤ suc n → (a ≡ suc n → ⊥) → a ≤ n
below_by a n few other = elim (cases_lt n a) [
  | inl above ↦ absurd (other (omega (arith, few, above)))
  | inr below ↦ below
]

head_first : {Z : Type 0} (most : ℕ) (entry : String Z × Tally) (entries : List (String Z × Tally))
    → All (λ other. count_of other ≤ count_of entry) entries → 1 ≤ count_of entry → count_of entry ≤ most
    → lines_down most (entry ∷ entries) ≡ end_line entry ++ lines_down most entries
head_first zero entry entries fewer some few = absurd (omega (arith, some, few))
head_first {Z} (suc less) entry entries fewer some few =
    elim (cases_Bool (count_of entry == suc less)) [
      | inl is ↦
          let same : count_of entry ≡ suc less = eqb_same (count_of entry) (suc less) is in
          let rest = skipped less entry entries (omega (arith, same)) in
          (λ i. (cond (is i) (end_line entry) [] ++ lines_at (suc less) entries) ++ rest i)
          ∙ append_assoc (end_line entry) (lines_at (suc less) entries) (lines_down less entries)
      | inr is ↦
          let below : count_of entry ≤ less =
          below_by (count_of entry) less few (eqb-false (count_of entry) (suc less) is) in
          let none = none_at (suc less) entries
          (All-weaker (λ (other : String Z × Tally). count_of other ≤ count_of entry)
          (λ (other : String Z × Tally). (count_of other == suc less) ≡ false)
          (λ other low. ne_eqb (count_of other) (suc less) (λ same. omega (arith, low, below, same))) entries fewer) in
          (λ i. (cond (is i) (end_line entry) [] ++ none i) ++ lines_down less (entry ∷ entries))
          ∙ head_first less entry entries fewer some below
          ∙ (λ i. end_line entry ++ (sym none i ++ lines_down less entries))
    ]

falling : {Z : Type 0} (most : ℕ) (entries : List (String Z × Tally))
    → ((i j : ℕ) (d : String Z × Tally) → i ≤ j → j < length entries
    → count_of (get_or entries j d) ≤ count_of (get_or entries i d))
    → All (λ entry. IsTallyWithin most entry.1) entries → flat_map end_line entries ≡ lines_down most entries
falling {Z} most [] falls all = sym (none_down Z most)
falling {Z} most (entry ∷ entries) falls all =
    let Within : String Z × Tally → Type 0 = λ entry. IsTallyWithin most entry.1 in
    let here = All-head Within entry entries all in
    ap (λ rest. end_line entry ++ rest)
    (falling most entries (λ i j d up within. falls (suc i) (suc j) d (omega (arith, up)) (omega (arith, within)))
    (All-tail Within entry entries all))
    ∙ sym (head_first most entry entries
    (All-from_get_or (λ (other : String Z × Tally). count_of other ≤ count_of entry) entries entry
    (λ i within. falls 0 (suc i) entry (omega arith) (omega (arith, within))))
    here.1 here.2)

-- ---- a stable sort keeps the lines of each count

at_filter_by : {Z : Type 0} (count : ℕ) (entry : String Z × Tally) (entries : List (String Z × Tally)) (here : Bool)
    → lines_at count entries ≡ flat_map end_line (filter (λ entry. count_of entry == count) entries)
    → cond here (end_line entry) [] ++ lines_at count entries
    ≡ flat_map end_line (cond here (entry ∷ filter (λ entry. count_of entry == count) entries)
    (filter (λ entry. count_of entry == count) entries))
at_filter_by count entry entries true rest = ap (λ left. end_line entry ++ left) rest
at_filter_by count entry entries false rest = rest

at_filter : {Z : Type 0} (count : ℕ) (entries : List (String Z × Tally))
    → lines_at count entries ≡ flat_map end_line (filter (λ entry. count_of entry == count) entries)
at_filter count [] = refl
at_filter count (entry ∷ entries) =
    at_filter_by count entry entries (count_of entry == count) (at_filter count entries)

none_kept_by : {Z : Type 0} (test : String Z × Tally → Bool) (entry : String Z × Tally)
    (entries : List (String Z × Tally)) (here : Bool) → test entry ≡ here
    → cond here (entry ∷ filter test entries) (filter test entries) ≡ []
    → (filter test entries ≡ [] → All (λ entry. test entry ≡ false) entries)
    → All (λ entry. test entry ≡ false) (entry ∷ entries)
none_kept_by {Z} test entry entries true is none rest = cc
none_kept_by {Z} test entry entries false is none rest =
    All-cons (λ (entry : String Z × Tally). test entry ≡ false) entry entries is (rest none)

none_kept : {Z : Type 0} (test : String Z × Tally → Bool) (entries : List (String Z × Tally))
    → filter test entries ≡ [] → All (λ entry. test entry ≡ false) entries
none_kept {Z} test [] none = All-nil (λ (entry : String Z × Tally). test entry ≡ false)
none_kept {Z} test (entry ∷ entries) none =
    none_kept_by test entry entries (test entry) refl none (none_kept test entries)

tied : {Z : Type 0} (count : ℕ) (entry other : String Z × Tally) → (count_of entry == count) ≡ true
    → ties comes_first entry other ≡ (count_of other == count)
tied count entry other passes =
    tie_is (count_of entry) (count_of other)
    ∙ nat_eq_equiv.symm (count_of other) (count_of entry)
    ∙ nat_eq_equiv.congr (count_of entry) count (count_of other) passes
    ∙ nat_eq_equiv.symm count (count_of other)

same_at_by : {Z : Type 0} (count : ℕ) (old new : List (String Z × Tally)) → IsPermutation old new
    → IsStableBy comes_first old new → (kept : List (String Z × Tally))
    → filter (λ entry. count_of entry == count) old ≡ kept → lines_at count new ≡ lines_at count old
same_at_by {Z} count old new permuted stable [] none =
    let Other : String Z × Tally → Type 0 = λ entry. (count_of entry == count) ≡ false in
    let others = none_kept (λ entry. count_of entry == count) old none in
    none_at count new (All-permutation Other old new permuted others) ∙ sym (none_at count old others)
same_at_by {Z} count old new permuted stable (entry ∷ more) is =
    let here : String Z × Tally → Bool = λ entry. count_of entry == count in
    let Here : String Z × Tally → Type 0 = λ entry. here entry ≡ true in
    let passes = All-head Here entry more
    (subst (λ (kept : List (String Z × Tally)). All Here kept) is (filter_passes here old)) in
    let alike : (other : String Z × Tally) → ties comes_first entry other ≡ here other =
    λ other. tied count entry other passes in
    at_filter count new
    ∙ ap (λ kept. flat_map end_line kept)
    (sym (filter_agree (ties comes_first entry) here alike new) ∙ stable entry
    ∙ filter_agree (ties comes_first entry) here alike old)
    ∙ sym (at_filter count old)

same_at : {Z : Type 0} (count : ℕ) (old new : List (String Z × Tally)) → IsPermutation old new
    → IsStableBy comes_first old new → lines_at count new ≡ lines_at count old
same_at {Z} count old new permuted stable =
    same_at_by count old new permuted stable (filter (λ entry. count_of entry == count) old) refl

same_down : {Z : Type 0} (most : ℕ) (old new : List (String Z × Tally)) → IsPermutation old new
    → IsStableBy comes_first old new → lines_down most new ≡ lines_down most old
same_down zero old new permuted stable = refl
same_down (suc fewer) old new permuted stable =
    λ i. same_at (suc fewer) old new permuted stable i ++ same_down fewer old new permuted stable i

-- ---- they are the lines of the ends

abbrev line_kept : (count : ℕ) → List ℕ × Tally → List ℕ
line_kept count kept =
    cond (kept.1.count == count) (end_head kept.1.count kept.1.first ++ (kept.0 ++ codes "\n")) []

line_by : (ends : List (List ℕ)) (count : ℕ) (tally : Tally) (here : Bool) → (tally.count == count) ≡ here
    → cond here (end_head tally.count tally.first ++ (end_at ends tally.first ++ codes "\n")) []
    ≡ cond here (end_head count tally.first ++ (end_at ends tally.first ++ codes "\n")) []
line_by ends count tally true here =
    ap (λ n. end_head n tally.first ++ (end_at ends tally.first ++ codes "\n")) (eqb_same tally.count count here)
line_by ends count tally false here = refl

line_same : (ends : List (List ℕ)) (count first : ℕ)
    → line_kept count (end_with_tally ends first) ≡ tally_line ends count (tally_of ends first)
line_same ends count first =
    let tally = tally_of ends first in
    line_by ends count tally (tally.count == count) refl

lines_told : {Z : Type 0} (count : ℕ) (entries : List (String Z × Tally)) (ends : List (List ℕ)) (outcomes : ℕ)
    → AreTallied entries outcomes ends → lines_at count entries ≡ tally_lines ends count (tallies_of ends)
lines_told {Z} count entries ends outcomes are =
    sym (flat_map-map (line_kept count) entry_told entries)
    ∙ ap (λ es. flat_map (line_kept count) es) are.each
    ∙ flat_map-map (line_kept count) (end_with_tally ends) (first_ends ends)
    ∙ (λ i. flat_map (λ first. line_same ends count first i) (first_ends ends))
    ∙ sym (flat_map-map (tally_line ends count) (tally_of ends) (first_ends ends))

told_down : {Z : Type 0} (most : ℕ) (entries : List (String Z × Tally)) (ends : List (List ℕ)) (outcomes : ℕ)
    → AreTallied entries outcomes ends → lines_down most entries ≡ lines_to ends most
unfolding lines_to
told_down zero entries ends outcomes are = refl
told_down (suc fewer) entries ends outcomes are =
    λ i. lines_told (suc fewer) entries ends outcomes are i ++ told_down fewer entries ends outcomes are i

pub sorted_lines : {Z : Type 0} (old new : List (String Z × Tally)) (outcomes : ℕ) (ends : List (List ℕ))
    → AreTallied old outcomes ends → IsPermutation old new → IsSortedBy comes_first new
    → IsStableBy comes_first old new → flat_map end_line new ≡ ends_lines ends
sorted_lines {Z} old new outcomes ends are permuted sorted stable =
    let Within : String Z × Tally → Type 0 = λ entry. IsTallyWithin outcomes entry.1 in
    falling outcomes new
    (λ i j d up within.
    ge_from_not_lt (count_of (get_or new i d)) (count_of (get_or new j d))
    (sorted_far comes_first first_orders new sorted i j d up within))
    (All-permutation Within old new permuted (tallies_within old outcomes ends are))
    ∙ same_down outcomes old new permuted stable
    ∙ told_down outcomes old ends outcomes are
    ∙ ap (lines_to ends) are.counted
