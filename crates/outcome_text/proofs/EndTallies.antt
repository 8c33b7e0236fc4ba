-- Ends that are counted one after another: what the ends so far have, and what one more makes of it.
use Rattle.std.proofs.Common.{refl, ◌≡◌, ◌∙◌, ◌<◌, ◌≤◌, ◌+◌, ◌++◌, ◌∷◌, ◌||◌, [], ℕ, zero, suc, Bool, true, false}
use Rattle.std.proofs.Common.{not, List, None, Option, Some, ap, append-nil, arith, cond, filter, get_or, length, map}
use Rattle.std.proofs.Common.{string_bytes, subst, sym}
use Rattle.std.specs.Cmp.Lexicographic.{nat_list_eq_equiv}
use Rattle.std.specs.Map.{lookup}
use Rattle.std.specs.Prelude.{IfSome, String, bytes_eq, count_by}
use Rattle.std.specs.String.{string_eq}
use Rattle.std.specs.List.{All, list_any, range_with_len}
use Rattle.std.proofs.lemmas.Bool.{false≢true}
use Rattle.std.proofs.lemmas.List.{get_or_append_left, length-append, map-append}
use Rattle.std.proofs.lemmas.List.Elements.{All-cons, All-filter, All-from_get_or, All-get_or, All-head, All-map}
use Rattle.std.proofs.lemmas.List.Elements.{All-nil, All-same, All-tail, All-weaker, filter-append, filter_passes}
use Rattle.std.proofs.lemmas.List.Folds.{list_any-append, list_any_at}
use Rattle.std.proofs.lemmas.List.FromFn.{get_or-range_with_len, length-range_with_len}
use Rattle.std.proofs.lemmas.List.Sums.{count_by-le-length, sum_by-append}
use Rattle.std.proofs.lemmas.Map.Entries.{All-lookup}
use Rattle.std.proofs.lemmas.Slice.Eq.{bytes_eq-Decides}
use Rattle.std.proofs.Math.Seq.{get_or-append_seam}
use Rattle.indexmap.specs.IndexMap.{insert_entry}
use Rattle.outcome_text.specs.declared.end_tallies.Tally.{Tally}
use Rattle.outcome_text.specs.OutcomeEnds.{AreTallied, count_like, end_at, end_with_tally, entry_told, first_ends}
use Rattle.outcome_text.specs.OutcomeEnds.{is_first_end, tally_of}

-- ---- numbers of a range

range_suc : (a n : ℕ) → range_with_len a (suc n) ≡ range_with_len a n ++ (a + n) ∷ []
range_suc a zero = let same : a ≡ a + 0 = omega arith in ap (λ k. k ∷ []) same
range_suc a (suc n) =
    let same : a + 1 + n ≡ a + suc n = omega arith in
    ap (λ ks. a ∷ ks) (range_suc (a + 1) n ∙ ap (λ k. range_with_len (a + 1) n ++ k ∷ []) same)

range_one_more : (n : ℕ) → range_with_len 0 (suc n) ≡ range_with_len 0 n ++ n ∷ []
range_one_more n =
    let same : 0 + n ≡ n = omega arith in
    range_suc 0 n ∙ ap (λ k. range_with_len 0 n ++ k ∷ []) same

all_within : (a n : ℕ) → All (λ k. (a ≤ k) × (k < a + n)) (range_with_len a n)
all_within a zero = All-nil (λ (k : ℕ). (a ≤ k) × (k < a + 0))
all_within a (suc n) =
    All-cons (λ (k : ℕ). (a ≤ k) × (k < a + suc n)) a (range_with_len (a + 1) n) (omega arith, omega arith)
    (All-weaker (λ (k : ℕ). (a + 1 ≤ k) × (k < a + 1 + n)) (λ (k : ℕ). (a ≤ k) × (k < a + suc n))
    (λ k is. let low = is.0 in let high = is.1 in (omega (arith, low), omega (arith, high)))
    (range_with_len (a + 1) n) (all_within (a + 1) n))

all_below : (n : ℕ) → All (λ k. k < n) (range_with_len 0 n)
all_below n =
    All-weaker (λ (k : ℕ). (0 ≤ k) × (k < 0 + n)) (λ (k : ℕ). k < n) (λ k is. let high = is.1 in omega (arith, high))
    (range_with_len 0 n) (all_within 0 n)

none_of : (test : ℕ → Bool) (n k : ℕ) → list_any test (range_with_len 0 n) ≡ false → k < n → test k ≡ false
none_of test n k none within = by (test k) refl
  where
    by : (b : Bool) → test k ≡ b → b ≡ false
    by false is = refl
    by true is =
        let here : 0 + k ≡ k = omega arith in
        let at : get_or (range_with_len 0 n) k 0 ≡ k = get_or-range_with_len 0 n k 0 within ∙ here in
        let long = length-range_with_len 0 n in
        absurd (false≢true (sym none
        ∙ list_any_at test (range_with_len 0 n) k 0 (omega (arith, long, within)) (ap test at ∙ is)))

-- ---- lists that two tests, or two functions, do not tell apart

any_alike : (s t : ℕ → Bool) (ks : List ℕ) → All (λ k. s k ≡ t k) ks → list_any s ks ≡ list_any t ks
any_alike s t [] all = refl
any_alike s t (k ∷ ks) all =
    let head = All-head (λ (k : ℕ). s k ≡ t k) k ks all in
    let tail = any_alike s t ks (All-tail (λ (k : ℕ). s k ≡ t k) k ks all) in
    λ i. head i || tail i

filter_alike : (s t : ℕ → Bool) (ks : List ℕ) → All (λ k. s k ≡ t k) ks → filter s ks ≡ filter t ks
filter_alike s t [] all = refl
filter_alike s t (k ∷ ks) all =
    let head = All-head (λ (k : ℕ). s k ≡ t k) k ks all in
    let tail = filter_alike s t ks (All-tail (λ (k : ℕ). s k ≡ t k) k ks all) in
    λ i. cond (head i) (k ∷ tail i) (tail i)

map_alike : {X : Type 0} (f g : ℕ → X) (ks : List ℕ) → All (λ k. f k ≡ g k) ks → map f ks ≡ map g ks
map_alike f g [] all = refl
map_alike f g (k ∷ ks) all =
    let head = All-head (λ (k : ℕ). f k ≡ g k) k ks all in
    let tail = map_alike f g ks (All-tail (λ (k : ℕ). f k ≡ g k) k ks all) in
    λ i. head i ∷ tail i

-- ---- counts

more_counted : {X : Type 0} (test : X → Bool) (x : X) (xs : List X)
    → count_by test (x ∷ xs) ≡ cond (test x) 1 0 + count_by test xs
more_counted test x xs =
    let one : 0 + cond (test x) 1 0 ≡ cond (test x) 1 0 = omega arith in
    sum_by-append (λ x. cond (test x) 1 0) (x ∷ []) xs ∙ ap (λ n. n + count_by test xs) one

last_counted : {X : Type 0} (test : X → Bool) (xs : List X) (x : X)
    → count_by test (xs ++ x ∷ []) ≡ count_by test xs + cond (test x) 1 0
last_counted test xs x =
    let one : 0 + cond (test x) 1 0 ≡ cond (test x) 1 0 = omega arith in
    sum_by-append (λ x. cond (test x) 1 0) xs (x ∷ []) ∙ ap (λ n. count_by test xs + n) one

none_counted : {X : Type 0} (test : X → Bool) (xs : List X) → All (λ x. test x ≡ false) xs → count_by test xs ≡ 0
none_counted test [] all = refl
none_counted {X} test (x ∷ xs) all =
    let head = All-head (λ (x : X). test x ≡ false) x xs all in
    let tail = none_counted test xs (All-tail (λ (x : X). test x ≡ false) x xs all) in
    more_counted test x xs ∙ (λ i. cond (head i) 1 0 + tail i)

abbrev one_if : Bool → ℕ
one_if b = cond b 1 0

some_counted : {X : Type 0} (test : X → Bool) (xs : List X) (i : ℕ) (d : X) → i < length xs
    → test (get_or xs i d) ≡ true → 1 ≤ count_by test xs
some_counted test [] i d within is = absurd (omega (arith, within))
some_counted test (x ∷ xs) zero d within is =
    let first : one_if (test x) ≡ one_if true = ap one_if is in
    let all = more_counted test x xs in
    omega (arith, all, first)
some_counted test (x ∷ xs) (suc i) d within is =
    let rest = some_counted test xs i d (omega (arith, within)) is in
    let all = more_counted test x xs in
    omega (arith, all, rest)

-- ---- one end more

old_end : (ends : List (List ℕ)) (end : List ℕ) (place : ℕ) → place < length ends
    → end_at (ends ++ end ∷ []) place ≡ end_at ends place
old_end ends end place within = get_or_append_left ends (end ∷ []) [] place within

last_end : (ends : List (List ℕ)) (end : List ℕ) → end_at (ends ++ end ∷ []) (length ends) ≡ end
last_end ends end = get_or-append_seam ends end [] []

first_still : (ends : List (List ℕ)) (end : List ℕ) (place : ℕ) → place < length ends
    → is_first_end (ends ++ end ∷ []) place ≡ is_first_end ends place
first_still ends end place within =
    let more : List (List ℕ) = ends ++ end ∷ [] in
    let s : ℕ → Bool = λ before. bytes_eq (end_at more before) (end_at more place) in
    let t : ℕ → Bool = λ before. bytes_eq (end_at ends before) (end_at ends place) in
    ap not (any_alike s t (range_with_len 0 place)
    (All-weaker (λ (k : ℕ). k < place) (λ (k : ℕ). s k ≡ t k)
    (λ k less i. bytes_eq (old_end ends end k (omega (arith, less, within)) i) (old_end ends end place within i))
    (range_with_len 0 place) (all_below place)))

-- the last outcome comes to the first ones, if none ends as it does
firsts_more : (ends : List (List ℕ)) (end : List ℕ)
    → first_ends (ends ++ end ∷ [])
    ≡ first_ends ends ++ cond (is_first_end (ends ++ end ∷ []) (length ends)) (length ends ∷ []) []
firsts_more ends end =
    let more : List (List ℕ) = ends ++ end ∷ [] in
    let first : ℕ → Bool = is_first_end more in
    let n = length ends in
    let long : length more ≡ suc n = omega (arith, length-append ends (end ∷ [])) in
    ap (λ k. filter first (range_with_len 0 k)) long
    ∙ ap (filter first) (range_one_more n)
    ∙ filter-append first (range_with_len 0 n) (n ∷ [])
    ∙ ap (λ ks. ks ++ cond (first n) (n ∷ []) [])
    (filter_alike first (is_first_end ends) (range_with_len 0 n)
    (All-weaker (λ (k : ℕ). k < n) (λ (k : ℕ). first k ≡ is_first_end ends k)
    (λ k less. first_still ends end k less) (range_with_len 0 n) (all_below n)))

firsts_within : (ends : List (List ℕ)) → All (λ k. k < length ends) (first_ends ends)
firsts_within ends =
    All-filter (is_first_end ends) (λ (k : ℕ). k < length ends) (range_with_len 0 (length ends))
    (all_below (length ends))

-- ---- the first ones tell of all ends

abbrev ends_so : (ends : List (List ℕ)) → (end : List ℕ) → (place : ℕ) → Bool
ends_so ends end place = bytes_eq (end_at ends place) end

or_false : (b : Bool) → (b || false) ≡ b
or_false true = refl
or_false false = refl

or_same : (a b : Bool) → (b ≡ true → a ≡ true) → (a || b) ≡ a
or_same true b more = refl
or_same false true more = sym (more refl)
or_same false false more = refl

true_by : (b : Bool) → not b ≡ false → b ≡ true
true_by true is = refl
true_by false is = absurd (false≢true (sym is))

false_by : (b : Bool) → not b ≡ true → b ≡ false
false_by true is = absurd (false≢true is)
false_by false is = refl

before_too : (ends : List (List ℕ)) (end : List ℕ) (n : ℕ) → is_first_end ends n ≡ false → ends_so ends end n ≡ true
    → list_any (ends_so ends end) (range_with_len 0 n) ≡ true
before_too ends end n not_first so =
    let same : end_at ends n ≡ end = (bytes_eq-Decides (end_at ends n) end).0 so in
    subst (λ e. list_any (ends_so ends e) (range_with_len 0 n) ≡ true) same
    (true_by (list_any (ends_so ends (end_at ends n)) (range_with_len 0 n)) not_first)

firsts_by : (ends : List (List ℕ)) (end : List ℕ) (n : ℕ) (first : Bool) → is_first_end ends n ≡ first
    → list_any (ends_so ends end) (filter (is_first_end ends) (range_with_len 0 n))
    ≡ list_any (ends_so ends end) (range_with_len 0 n)
    → list_any (ends_so ends end) (filter (is_first_end ends) (range_with_len 0 n) ++ cond first (n ∷ []) [])
    ≡ (list_any (ends_so ends end) (range_with_len 0 n) || (ends_so ends end n || false))
firsts_by ends end n true first so_far =
    list_any-append (ends_so ends end) (filter (is_first_end ends) (range_with_len 0 n)) (n ∷ [])
    ∙ ap (λ b. b || (ends_so ends end n || false)) so_far
firsts_by ends end n false first so_far =
    list_any-append (ends_so ends end) (filter (is_first_end ends) (range_with_len 0 n)) []
    ∙ or_false (list_any (ends_so ends end) (filter (is_first_end ends) (range_with_len 0 n)))
    ∙ so_far
    ∙ sym (ap (λ b. list_any (ends_so ends end) (range_with_len 0 n) || b) (or_false (ends_so ends end n))
    ∙ or_same (list_any (ends_so ends end) (range_with_len 0 n)) (ends_so ends end n) (before_too ends end n first))

firsts_tell : (ends : List (List ℕ)) (end : List ℕ) (n : ℕ)
    → list_any (ends_so ends end) (filter (is_first_end ends) (range_with_len 0 n))
    ≡ list_any (ends_so ends end) (range_with_len 0 n)
firsts_tell ends end zero = refl
firsts_tell ends end (suc n) =
    ap (λ ns. list_any (ends_so ends end) (filter (is_first_end ends) ns)) (range_one_more n)
    ∙ ap (list_any (ends_so ends end)) (filter-append (is_first_end ends) (range_with_len 0 n) (n ∷ []))
    ∙ firsts_by ends end n (is_first_end ends n) refl (firsts_tell ends end n)
    ∙ sym (list_any-append (ends_so ends end) (range_with_len 0 n) (n ∷ []))
    ∙ sym (ap (list_any (ends_so ends end)) (range_one_more n))

-- ---- no two of them end alike

abbrev AreApart : (end : ℕ → List ℕ) → (places : List ℕ) → Type 0
AreApart end [] = Unit {0}
AreApart end (k ∷ ks) = All (λ other. bytes_eq (end k) (end other) ≡ false) ks × AreApart end ks

apart_by : (end : ℕ → List ℕ) (k : ℕ) (ks : List ℕ) (first : Bool)
    → All (λ other. bytes_eq (end k) (end other) ≡ false) ks → AreApart end ks → AreApart end (cond first (k ∷ ks) ks)
apart_by end k ks true others rest = (others, rest)
apart_by end k ks false others rest = rest

first_differs : (ends : List (List ℕ)) (k other : ℕ) → k < other → is_first_end ends other ≡ true
    → bytes_eq (end_at ends k) (end_at ends other) ≡ false
first_differs ends k other before first =
    let test : ℕ → Bool = ends_so ends (end_at ends other) in
    none_of test other k (false_by (list_any test (range_with_len 0 other)) first) before

firsts_apart : (ends : List (List ℕ)) (a n : ℕ)
    → AreApart (end_at ends) (filter (is_first_end ends) (range_with_len a n))
firsts_apart ends a zero = tt
firsts_apart ends a (suc n) =
    let first : ℕ → Bool = is_first_end ends in
    let After : ℕ → Type 0 = λ k. (a + 1 ≤ k) × (k < a + 1 + n) in
    let Differs : ℕ → Type 0 = λ other. bytes_eq (end_at ends a) (end_at ends other) ≡ false in
    let rest : List ℕ = filter first (range_with_len (a + 1) n) in
    let after : All After rest = All-filter first After (range_with_len (a + 1) n) (all_within (a + 1) n) in
    let firsts : All (λ k. first k ≡ true) rest = filter_passes first (range_with_len (a + 1) n) in
    apart_by (end_at ends) a rest (first a)
    (All-from_get_or Differs rest 0
    (λ i within.
    let low = (All-get_or After rest i 0 within after).0 in
    first_differs ends a (get_or rest i 0) (omega (arith, low))
    (All-get_or (λ (k : ℕ). first k ≡ true) rest i 0 within firsts)))
    (firsts_apart ends (a + 1) n)

-- ---- an end that is kept counts one outcome more, or a new one comes last

abbrev pub kept_as : (end : ℕ → List ℕ) → (count : ℕ → ℕ) → (first : ℕ) → List ℕ × Tally
kept_as end count first = (end first, record { first = first; count = count first })

abbrev count_with : (end : ℕ → List ℕ) → (count : ℕ → ℕ) → (more : List ℕ) → ℕ → ℕ
count_with end count more first = count first + cond (bytes_eq more (end first)) 1 0

abbrev pub next_tally : Option Tally → (place : ℕ) → Tally
next_tally None place = record { first = place; count = 1 }
next_tally (Some tally) place = record { first = tally.first; count = tally.count + 1 }

others_stay : (end : ℕ → List ℕ) (count : ℕ → ℕ) (more : List ℕ) (ks : List ℕ)
    → All (λ k. bytes_eq more (end k) ≡ false) ks
    → map (kept_as end (count_with end count more)) ks ≡ map (kept_as end count) ks
others_stay end count more ks all =
    map_alike (kept_as end (count_with end count more)) (kept_as end count) ks
    (All-weaker (λ (k : ℕ). bytes_eq more (end k) ≡ false)
    (λ (k : ℕ). kept_as end (count_with end count more) k ≡ kept_as end count k)
    (λ k is.
    let none : count k + 0 ≡ count k = omega arith in
    let same : count_with end count more k ≡ count k = ap (λ b. count k + cond b 1 0) is ∙ none in
    λ i. (end k, record { first = k; count = same i }))
    ks all)

-- of an end that is kept, or of one that comes after it
counts_by : (end : ℕ → List ℕ) (count : ℕ → ℕ) (more : List ℕ) (place k : ℕ) (ks : List ℕ) (here : Bool)
    → bytes_eq more (end k) ≡ here → All (λ other. bytes_eq (end k) (end other) ≡ false) ks
    → insert_entry bytes_eq (map (kept_as end count) ks) more
    (next_tally (lookup (bytes_eq more) (map (kept_as end count) ks)) place)
    ≡ map (kept_as end (count_with end count more)) ks
    ++ cond (list_any (λ k. bytes_eq more (end k)) ks) [] ((more, record { first = place; count = 1 }) ∷ [])
    → insert_entry bytes_eq (map (kept_as end count) (k ∷ ks)) more
    (next_tally (lookup (bytes_eq more) (map (kept_as end count) (k ∷ ks))) place)
    ≡ map (kept_as end (count_with end count more)) (k ∷ ks)
    ++ cond (list_any (λ k. bytes_eq more (end k)) (k ∷ ks)) [] ((more, record { first = place; count = 1 }) ∷ [])
counts_by end count more place k ks true here apart rest =
    let same : more ≡ end k = (bytes_eq-Decides more (end k)).0 here in
    let others : All (λ other. bytes_eq more (end other) ≡ false) ks =
    subst (λ (e : List ℕ). All (λ other. bytes_eq e (end other) ≡ false) ks) (sym same) apart in
    let kept : List ℕ × Tally = (end k, record { first = k; count = count k + 1 }) in
    rw here (ap (λ es. kept ∷ es) (sym (others_stay end count more ks others) ∙ sym (append-nil _)))
counts_by end count more place k ks false here apart rest =
    let none : count k ≡ count k + 0 = omega arith in
    let kept : ℕ → List ℕ × Tally = λ n. (end k, record { first = k; count = n }) in
    rw here (λ i. kept (none i) ∷ rest i)

counts_on : (end : ℕ → List ℕ) (count : ℕ → ℕ) (more : List ℕ) (place : ℕ) (ks : List ℕ) → AreApart end ks
    → insert_entry bytes_eq (map (kept_as end count) ks) more
    (next_tally (lookup (bytes_eq more) (map (kept_as end count) ks)) place)
    ≡ map (kept_as end (count_with end count more)) ks
    ++ cond (list_any (λ k. bytes_eq more (end k)) ks) [] ((more, record { first = place; count = 1 }) ∷ [])
counts_on end count more place [] apart = refl
counts_on end count more place (k ∷ ks) apart =
    counts_by end count more place k ks (bytes_eq more (end k)) refl apart.0 (counts_on end count more place ks apart.1)

-- ---- all ends so far, and one more

last_kept : (ends : List (List ℕ)) (end : List ℕ)
    → list_any (ends_so ends end) (range_with_len 0 (length ends)) ≡ false
    → end_with_tally (ends ++ end ∷ []) (length ends) ≡ kept_as (λ _. end) (λ _. 1) (length ends)
last_kept ends end none =
    let at = last_end ends end in
    let before : All (λ other. bytes_eq other end ≡ false) ends =
    All-from_get_or (λ (other : List ℕ). bytes_eq other end ≡ false) ends []
    (λ i within. none_of (ends_so ends end) (length ends) i none within) in
    let counted : count_like (ends ++ end ∷ []) end ≡ 1 =
    last_counted (λ other. bytes_eq other end) ends end
    ∙ (λ i. none_counted (λ other. bytes_eq other end) ends before i + cond (nat_list_eq_equiv.refl end i) 1 0) in
    let count = ap (count_like (ends ++ end ∷ [])) at ∙ counted in
    λ i. (at i, record { first = length ends; count = count i })

new_kept : (ends : List (List ℕ)) (end : List ℕ) (known found : Bool)
    → known ≡ list_any (ends_so ends end) (range_with_len 0 (length ends)) → found ≡ known
    → map (end_with_tally (ends ++ end ∷ [])) (cond (not known) (length ends ∷ []) [])
    ≡ cond found [] (kept_as (λ _. end) (λ _. 1) (length ends) ∷ [])
new_kept ends end true found is same =
    ap (λ b. cond b [] (kept_as (λ _. end) (λ _. 1) (length ends) ∷ [])) (sym same)
new_kept ends end false found is same =
    ap (λ e. e ∷ []) (last_kept ends end (sym is))
    ∙ ap (λ b. cond b [] (kept_as (λ _. end) (λ _. 1) (length ends) ∷ [])) (sym same)

one_more : (ends : List (List ℕ)) (end : List ℕ)
    → map (end_with_tally (ends ++ end ∷ [])) (first_ends (ends ++ end ∷ []))
    ≡ insert_entry bytes_eq (map (end_with_tally ends) (first_ends ends)) end
    (next_tally (lookup (bytes_eq end) (map (end_with_tally ends) (first_ends ends))) (length ends))
one_more ends end =
    let more : List (List ℕ) = ends ++ end ∷ [] in
    let n = length ends in
    let firsts = first_ends ends in
    let count : ℕ → ℕ = λ first. count_like ends (end_at ends first) in
    let kept : ℕ → List ℕ × Tally = end_with_tally more in
    let known : Bool = list_any (ends_so more (end_at more n)) (range_with_len 0 n) in
    let found : Bool = list_any (λ k. bytes_eq end (end_at ends k)) firsts in
    let known_is : known ≡ list_any (ends_so ends end) (range_with_len 0 n) =
    any_alike (ends_so more (end_at more n)) (ends_so ends end) (range_with_len 0 n)
    (All-weaker (λ (k : ℕ). k < n) (λ (k : ℕ). ends_so more (end_at more n) k ≡ ends_so ends end k)
    (λ k less i. bytes_eq (old_end ends end k less i) (last_end ends end i)) (range_with_len 0 n) (all_below n)) in
    let found_is : found ≡ known =
    any_alike (λ k. bytes_eq end (end_at ends k)) (ends_so ends end) firsts
    (All-weaker (λ (k : ℕ). k < n) (λ (k : ℕ). bytes_eq end (end_at ends k) ≡ ends_so ends end k)
    (λ k less. nat_list_eq_equiv.symm end (end_at ends k)) firsts (firsts_within ends))
    ∙ firsts_tell ends end n ∙ sym known_is in
    ap (map kept) (firsts_more ends end)
    ∙ map-append kept firsts (cond (not known) (n ∷ []) [])
    ∙ ap (λ es. es ++ map kept (cond (not known) (n ∷ []) []))
    (map_alike kept (kept_as (end_at ends) (count_with (end_at ends) count end)) firsts
    (All-weaker (λ (k : ℕ). k < n) (λ (k : ℕ). kept k ≡ kept_as (end_at ends) (count_with (end_at ends) count end) k)
    (λ k less.
    let at = old_end ends end k less in
    let counted = ap (count_like more) at ∙ last_counted (λ other. bytes_eq other (end_at ends k)) ends end in
    λ i. (at i, record { first = k; count = counted i }))
    firsts (firsts_within ends)))
    ∙ ap (λ es. map (kept_as (end_at ends) (count_with (end_at ends) count end)) firsts ++ es)
    (new_kept ends end known found known_is found_is)
    ∙ sym (counts_on (end_at ends) count end n firsts (firsts_apart ends 0 n))

-- ---- what a map keeps of them

map_by : {X Y : Type 0} (f : X → Y) (b : Bool) (xs ys : List X) → map f (cond b xs ys) ≡ cond b (map f xs) (map f ys)
map_by f true xs ys = refl
map_by f false xs ys = refl

told_insert : {Z : Type 0} (entries : List (String Z × Tally)) (end : String Z) (tally : Tally)
    → map entry_told (insert_entry string_eq entries end tally)
    ≡ insert_entry bytes_eq (map entry_told entries) (string_bytes end) tally
told_insert [] end tally = refl
told_insert (e ∷ es) end tally =
    let here : Bool = bytes_eq (string_bytes end) (string_bytes e.0) in
    map_by entry_told here ((e.0, tally) ∷ es) (e ∷ insert_entry string_eq es end tally)
    ∙ ap (λ left. cond here ((string_bytes e.0, tally) ∷ map entry_told es) (entry_told e ∷ left))
    (told_insert es end tally)

told_lookup : {Z : Type 0} (entries : List (String Z × Tally)) (bytes : List ℕ)
    → lookup (λ k. bytes_eq bytes (string_bytes k)) entries ≡ lookup (bytes_eq bytes) (map entry_told entries)
told_lookup [] bytes = refl
told_lookup (e ∷ es) bytes =
    ap (λ left. cond (bytes_eq bytes (string_bytes e.0)) (Some e.1) left) (told_lookup es bytes)

pub tallied_more : {Z : Type 0} (old new : List (String Z × Tally)) (outcomes : ℕ) (ends : List (List ℕ))
    (end : String Z) (tally : Tally) → AreTallied old outcomes ends
    → tally ≡ next_tally (lookup (λ k. bytes_eq (string_bytes end) (string_bytes k)) old) outcomes
    → new ≡ insert_entry string_eq old end tally → AreTallied new (outcomes + 1) (ends ++ string_bytes end ∷ [])
tallied_more old new outcomes ends end tally before is inserted =
    let bytes = string_bytes end in
    let kept : List (List ℕ × Tally) = map (end_with_tally ends) (first_ends ends) in
    let counted = before.counted in
    record {
      counted = omega (arith, counted, length-append ends (bytes ∷ []));
      each =
          ap (map entry_told) inserted ∙ told_insert old end tally
          ∙ (λ i. insert_entry bytes_eq (before.each i) bytes tally)
          ∙ ap (insert_entry bytes_eq kept bytes)
          (is ∙ ap (λ found. next_tally found outcomes) (told_lookup old bytes)
          ∙ (λ i. next_tally (lookup (bytes_eq bytes) (before.each i)) (counted i)))
          ∙ sym (one_more ends bytes);
    }

-- ---- what every end that is kept has

-- it comes first within the outcomes, and as many as all have it, and at least that one
abbrev pub IsTallyWithin : (outcomes : ℕ) → Tally → Type 0
IsTallyWithin outcomes tally = (tally.first < outcomes) × (1 ≤ tally.count) × (tally.count ≤ outcomes)

tally_within : (ends : List (List ℕ)) (first : ℕ) → first < length ends
    → IsTallyWithin (length ends) (tally_of ends first)
tally_within ends first within =
    let same : List ℕ → Bool = λ other. bytes_eq other (end_at ends first) in
    let some = some_counted same ends first [] within (nat_list_eq_equiv.refl (end_at ends first)) in
    (within, some, count_by-le-length same ends)

untold : {Z : Type 0} (P : Tally → Type 0) (entries : List (String Z × Tally))
    → All (λ e. P e.1) (map entry_told entries) → All (λ e. P e.1) entries
untold {Z} P [] all = All-nil (λ (e : String Z × Tally). P e.1)
untold {Z} P (e ∷ es) all =
    let Q : List ℕ × Tally → Type 0 = λ e. P e.1 in
    All-cons (λ (e : String Z × Tally). P e.1) e es (All-head Q (entry_told e) (map entry_told es) all)
    (untold P es (All-tail Q (entry_told e) (map entry_told es) all))

pub tallies_within : {Z : Type 0} (entries : List (String Z × Tally)) (outcomes : ℕ) (ends : List (List ℕ))
    → AreTallied entries outcomes ends → All (λ e. IsTallyWithin outcomes e.1) entries
tallies_within {Z} entries outcomes ends are =
    let Q : List ℕ × Tally → Type 0 = λ e. IsTallyWithin (length ends) e.1 in
    let kept : ℕ → List ℕ × Tally = end_with_tally ends in
    let all : All Q (map kept (first_ends ends)) =
    All-map Q kept (first_ends ends)
    (All-weaker (λ (k : ℕ). k < length ends) (λ (k : ℕ). Q (kept k)) (λ k less. tally_within ends k less)
    (first_ends ends) (firsts_within ends)) in
    subst (λ (n : ℕ). All (λ (e : String Z × Tally). IsTallyWithin n e.1) entries) (sym are.counted)
    (untold (IsTallyWithin (length ends)) entries
    (All-same Q (map entry_told entries) (map kept (first_ends ends)) are.each all))

-- an end that is found has no more outcomes than there are
pub found_few : {Z : Type 0} (entries : List (String Z × Tally)) (outcomes : ℕ) (ends : List (List ℕ)) (bytes : List ℕ)
    (tally : Tally) → AreTallied entries outcomes ends
    → Some tally ≡ lookup (λ k. bytes_eq bytes (string_bytes k)) entries → tally.count ≤ outcomes
found_few {Z} entries outcomes ends bytes tally are is =
    let test : String Z → Bool = λ k. bytes_eq bytes (string_bytes k) in
    let within : IsTallyWithin outcomes tally =
    subst (λ (found : Option Tally). IfSome found (IsTallyWithin outcomes)) (sym is)
    (All-lookup (IsTallyWithin outcomes) test entries (tallies_within entries outcomes ends are)) in
    within.2

-- the place of its first outcome is below their number
pub firsts_few : {Z : Type 0} (entries : List (String Z × Tally)) (outcomes : ℕ) (ends : List (List ℕ))
    → AreTallied entries outcomes ends → All (λ e. e.1.first < outcomes) entries
firsts_few {Z} entries outcomes ends are =
    All-weaker (λ (e : String Z × Tally). IsTallyWithin outcomes e.1) (λ (e : String Z × Tally). e.1.first < outcomes)
    (λ e within. within.0) entries (tallies_within entries outcomes ends are)
