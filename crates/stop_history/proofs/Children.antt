-- A parent's births are as many as its children that are born.
use Rattle.std.proofs.Common.{refl, ◌≡◌, ◌+◌, ◌-◌, ◌<◌, ◌≤◌, ◌∷◌, [], ℕ, zero, suc, Bool, true, false, Some, None}
use Rattle.std.proofs.Common.{Option, List, length, is_some, min, arith, ◌∙◌, sym, ap, inl, inr, cond, count_by, take}
use Rattle.std.proofs.Common.{eqb, eqb-true, eq-eqb, ne_eqb, nat_lt, lt-ltb, le-ltb, if◌then◌else◌, get_or, add-one}
use Rattle.std.proofs.Common.{subst, take_all, zero-add}
use Rattle.std.specs.List.{range_with_len}
use Rattle.std.proofs.lemmas.Bool.{and_parts, cases_Bool, cases_lt}
use Rattle.std.proofs.lemmas.Bool.Decides.{eqb_tells}
use Rattle.std.proofs.lemmas.List.Sums.{count_by_more_no, count_by_more_yes, sum_by_more_le}
use Rattle.std.proofs.lemmas.List.FromFn.{get_or-range_with_len, length-range_with_len}
use Rattle.trace_record.specs.Stop.{child_of}
use Rattle.stop_history.specs.declared.roster.Row.{Row}
use Rattle.stop_history.specs.Event as event
use Rattle.stop_history.specs.Event.{Event, History, events_of, subject}
use Rattle.stop_history.specs.Roster.{IsRoster, nobody, parent_of, rank_of, row_at, row_of}
use Rattle.stop_history.specs.declared.limits.TheConstants.{MOST_ROWS}
use Rattle.stop_history.specs.State.{is_born, was_created}
use Rattle.stop_history.specs.History.{IsLegal, births_after, is_born_child, is_of_parent, is_next_child, names_next}
use Rattle.stop_history.proofs.Births.{born_by_rank}
use Rattle.stop_history.proofs.Events.{claim_births, exit_births, resume_births}
use Rattle.stop_history.proofs.Rosters.{few_rows, no_root, parent_of-Some, row_of-Some, row_of-tid, tid_in_range}

-- how many of some rows have a parent of this tid
abbrev pub children : ℕ → List Row → ℕ
children tid rows = count_by (λ q. eqb q.parent tid) rows

-- whether a row is a child of another, by the place of its parent and by that parent's tid
child_by_tid : (rows : List Row) → IsRoster rows → (parent row : ℕ) → parent < length rows → row < length rows
    → (o : Option ℕ) → parent_of rows row ≡ o
    → is_of_parent parent o ≡ eqb (row_at rows row).parent (row_at rows parent).tid
child_by_tid rows roster parent row there here None none = sym (ne_eqb _ _ (λ same.
    let root = eqb-true _ _ (no_root rows roster row here none) in
    let tids = tid_in_range rows roster parent there in
    absurd (omega arith)))
child_by_tid rows roster parent row there here (Some other) found =
    let known = parent_of-Some rows roster row other here found in
    elim (eqb_tells other parent) [
      | inl same ↦ same.0 ∙ sym (eq-eqb _ _ (sym known.tid ∙ ap (λ k. (row_at rows k).tid) same.1))
      | inr apart ↦ apart.0 ∙ sym (ne_eqb _ _ (λ same. apart.1 (
          let twice : Some other ≡ Some parent = sym (row_of-tid rows roster other (omega (arith, known.before)))
          ∙ ap (row_of rows) (known.tid ∙ same) ∙ row_of-tid rows roster parent there in cc)))
    ]

-- ---- births are at most as many as there are children

one_more_child : (rows : List Row) (tid row : ℕ) → row < length rows → (row_at rows row).parent ≡ tid
    → rank_of rows row + 1 ≤ children tid rows
one_more_child rows tid row within of_parent =
    let weight : Row → ℕ = λ q. cond (eqb q.parent tid) 1 0 in
    let counted : children tid (take row rows) + weight
    (row_at rows row) ≤ children tid rows = sum_by_more_le weight rows row nobody within in
    let one : weight (row_at rows row) ≡ 1 = rw (eq-eqb _ _ of_parent) in
    let ranked : rank_of rows row ≡ children tid (take row rows) = ap (λ p. children p (take row rows)) of_parent in
    omega arith

room_for_next : (rows : List Row) (parent births : ℕ) (child : Option ℕ) (tid : ℕ) → row_of rows tid ≡ child
    → is_next_child rows parent births child ≡ true
    → births + 1 ≤ children (row_at rows parent).tid rows
room_for_next rows parent births None tid found next = cc
room_for_next rows parent births (Some child) tid found next =
    let parts = and_parts (eqb (row_at rows child).parent (row_at rows parent).tid)
    (eqb (rank_of rows child) births) next in
    let rank : rank_of rows child ≡ births = eqb-true _ _ parts.1 in
    omega (
      arith,
      one_more_child rows (row_at rows parent).tid child (row_of-Some rows tid child found).0
          (eqb-true _ _ parts.0),
    )

room_for_stop : (rows : List Row) (parent births : ℕ) (child : Option ℕ) → names_next rows parent births child ≡ true
    → births ≤ children (row_at rows parent).tid rows
    → (if is_some child then births + 1 else births) ≤ children (row_at rows parent).tid rows
room_for_stop rows parent births None next so_far = so_far
room_for_stop rows parent births (Some tid) next so_far =
    room_for_next rows parent births (row_of rows tid) tid refl next

-- the births are no more than the children
pub births_are_few : (rows : List Row) (h : History) → IsLegal rows h → (parent : ℕ)
    → births_after h parent ≤ children (row_at rows parent).tid rows
births_are_few rows [] legal parent = omega arith
births_are_few rows (event.Publish at number stop ∷ h) legal parent =
    elim (eqb_tells at parent) [
      | inl same ↦ rw same.0 (room_for_stop rows parent (births_after h parent) (child_of stop)
          (ap (λ p. names_next rows p (births_after h p) (child_of stop)) (sym same.1) ∙ legal.0.3)
          (births_are_few rows h legal.1 parent))
      | inr other ↦ rw other.0 (births_are_few rows h legal.1 parent)
    ]
births_are_few rows (event.Claim at number tracer ∷ h) legal parent =
    rw claim_births (births_are_few rows h legal.1 parent)
births_are_few rows (event.Resume at number how tracer ∷ h) legal parent =
    rw resume_births (births_are_few rows h legal.1 parent)
births_are_few rows (event.Exit at death ∷ h) legal parent = rw exit_births (births_are_few rows h legal.1 parent)

-- ---- a row has fewer children than there are rows, since the first row is nobody's child

first_is_root : (rows : List Row) → IsRoster rows → 0 < length rows → (row_at rows 0).parent ≡ 0
first_is_root rows roster within =
    elim (parent_of rows 0) as (λ o. parent_of rows 0 ≡ o → (row_at rows 0).parent ≡ 0) [
      | None ↦ λ none. eqb-true (row_at rows 0).parent 0 (no_root rows roster 0 within none)
      | Some parent ↦ λ found. absurd (omega (arith, (parent_of-Some rows roster 0 parent within found).before))
    ] refl

few_so_far : (rows : List Row) (tid : ℕ) → 1 ≤ tid → (row_at rows 0).parent ≡ 0 → (n : ℕ) → n < length rows
    → children tid (take (n + 1) rows) ≤ n
few_so_far rows tid some root zero within =
    let other : eqb (row_at rows 0).parent tid ≡ false = ne_eqb _ _ (λ same. absurd (omega arith)) in
    let none : children tid (take (0 + 1) rows)
    ≡ children tid (take 0 rows) = count_by_more_no (λ (q : Row). eqb q.parent tid) rows 0 nobody within other in
    omega arith
few_so_far rows tid some root (suc n) within =
    let before : children tid (take (n + 1) rows) ≤ n = few_so_far rows tid some root n (omega arith) in
    let test : Row → Bool = λ q. eqb q.parent tid in
    let Few : ℕ → Type 0 = λ k. children tid (take (k + 1) rows) ≤ k in
    subst Few (add-one n) (
    elim (cases_Bool (test (row_at rows (n + 1)))) [
      | inl passes ↦ let more : count_by test (take ((n + 1) + 1) rows)
          ≡ count_by test (take (n + 1) rows) + 1 = count_by_more_yes test rows (n + 1) nobody (omega arith) passes in
          omega arith
      | inr fails ↦ let same : count_by test (take ((n + 1) + 1) rows)
          ≡ count_by test (take (n + 1) rows) = count_by_more_no test rows (n + 1) nobody (omega arith) fails in
          omega arith
    ])

pub few_children : (rows : List Row) → IsRoster rows → (row : ℕ) → row < length rows
    → children (row_at rows row).tid rows < length rows
few_children rows roster row within =
    let last : ℕ = length rows - 1 in
    let some = (tid_in_range rows roster row within).0 in
    let counted = few_so_far rows (row_at rows row).tid some (first_is_root rows roster (omega arith)) last
    (omega arith) in
    let whole : take (last + 1) rows ≡ rows = take_all (last + 1) rows (omega arith) in
    let all : children (row_at rows row).tid rows ≤ last = rw whole at counted in
    omega arith

-- a row that creates its next child has fewer than 255
pub next_is_few : (rows : List Row) → IsRoster rows → (parent births : ℕ) → parent < length rows → (tid : ℕ)
    → is_next_child rows parent births (row_of rows tid) ≡ true
    → births + 1 < MOST_ROWS
next_is_few rows roster parent births within tid next =
    let room = room_for_next rows parent births (row_of rows tid) tid refl next in
    let children = few_children rows roster parent within in
    let few = few_rows rows roster in
    omega arith

-- ---- the born children of the first rows

born_at : (rows : List Row) → IsRoster rows → (h : History) → IsLegal rows h → (parent row : ℕ) → row < length rows
    → (o : Option ℕ) → parent_of rows row ≡ o → is_of_parent parent o ≡ true
    → is_born rows h row ≡ nat_lt (rank_of rows row) (births_after h parent)
born_at rows roster h legal parent row within None none is = cc
born_at rows roster h legal parent row within (Some other) found is =
    ap (λ o. was_created o (row_at rows row).tid h) found ∙ born_by_rank rows roster h legal row other within found
    ∙ ap (λ p. nat_lt (rank_of rows row) (births_after h p)) (eqb-true other parent is)

-- one more row is counted on both sides, or on neither
record IsStep (rows : List Row) (test : ℕ → Bool) (tid births n : ℕ) : Type 0 where
  born : eqb (row_at rows n).parent tid ≡ true → test n ≡ nat_lt (children tid (take n rows)) births
  other : eqb (row_at rows n).parent tid ≡ false → test n ≡ false

count_more : (rows : List Row) (test : ℕ → Bool) (tid births n : ℕ) → n < length rows → IsStep rows test tid births n
    → (so_far : ℕ) → count_by test (take n (range_with_len 0 (length rows))) ≡ so_far
    → so_far ≡ min births (children tid (take n rows))
    → count_by test (take (n + 1) (range_with_len 0 (length rows))) ≡ min births (children tid (take (n + 1) rows))
count_more rows test tid births n within step so_far is bound =
    let all : List ℕ = range_with_len 0 (length rows) in
    let long : length all ≡ length rows = length-range_with_len 0 (length rows) in
    let at : get_or all n 0 ≡ n = get_or-range_with_len 0 (length rows) n 0 within ∙ zero-add n in
    elim (cases_Bool (eqb (row_at rows n).parent tid)) [
      | inl is_child ↦
          let grown : children tid (take (n + 1) rows)
          ≡ children tid (take n rows) + 1 = count_by_more_yes
          (λ (q : Row). eqb q.parent tid) rows n nobody within is_child in
          elim (cases_lt (children tid (take n rows)) births) [
            | inl below ↦
                let passes : test (get_or all n 0) ≡ true = ap test at ∙ step.born is_child ∙ lt-ltb _ _ below in
                let more : count_by test (take (n + 1) all)
                ≡ count_by test (take n all) + 1 = count_by_more_yes test all n 0 (omega arith) passes in
                omega arith
            | inr above ↦
                let fails : test (get_or all n 0) ≡ false = ap test at ∙ step.born is_child ∙ le-ltb _ _ above in
                let same : count_by test (take (n + 1) all)
                ≡ count_by test (take n all) = count_by_more_no test all n 0 (omega arith) fails in
                omega arith
          ]
      | inr is_other ↦
          let kept : children tid (take (n + 1) rows)
          ≡ children tid (take n rows) = count_by_more_no
          (λ (q : Row). eqb q.parent tid) rows n nobody within is_other in
          let fails : test (get_or all n 0) ≡ false = ap test at ∙ step.other is_other in
          let same : count_by test (take (n + 1) all)
          ≡ count_by test (take n all) = count_by_more_no test all n 0 (omega arith) fails in
          omega arith
    ]

child_step : (rows : List Row) → IsRoster rows → (h : History) → IsLegal rows h → (parent : ℕ) → parent < length rows
    → (n : ℕ) → n < length rows
    → IsStep rows (is_born_child rows h parent) (row_at rows parent).tid (births_after h parent) n
child_step rows roster h legal parent there n within =
    let by_tid = child_by_tid rows roster parent n there within (parent_of rows n) refl in
    record {
      born = λ is_child.
          let is : is_of_parent parent (parent_of rows n) ≡ true = by_tid ∙ is_child in
          rw is (born_at rows roster h legal parent n within (parent_of rows n) refl is
          ∙ ap (λ p. nat_lt (children p (take n rows)) (births_after h parent))
          (eqb-true (row_at rows n).parent (row_at rows parent).tid is_child));
      other = λ is_other. let is : is_of_parent parent (parent_of rows n) ≡ false = by_tid ∙ is_other in rw is;
    }

born_so_far : (rows : List Row) → IsRoster rows → (h : History) → IsLegal rows h → (parent : ℕ) → parent < length rows
    → (n : ℕ) → n ≤ length rows
    → count_by (is_born_child rows h parent) (take n (range_with_len 0 (length rows)))
    ≡ min (births_after h parent) (children (row_at rows parent).tid (take n rows))
born_so_far rows roster h legal parent there zero short = omega arith
born_so_far rows roster h legal parent there (suc n) short =
    let Counted : ℕ → Type 0 = λ k. count_by (is_born_child rows h parent) (take k (range_with_len 0 (length rows)))
    ≡ min (births_after h parent) (children (row_at rows parent).tid (take k rows)) in
    subst Counted (add-one n)
    (count_more rows (is_born_child rows h parent) (row_at rows parent).tid (births_after h parent) n (omega arith)
    (child_step rows roster h legal parent there n (omega arith)) _ refl
    (born_so_far rows roster h legal parent there n (omega arith)))

-- the births of a row are its born children
pub births_are_born : (rows : List Row) (h : History) → IsRoster rows → IsLegal rows h → (row : ℕ) → row < length rows
    → births_after h row ≡ count_by (is_born_child rows h row) (range_with_len 0 (length rows))
births_are_born rows h roster legal row within =
    let all : List ℕ = range_with_len 0 (length rows) in
    let counted = born_so_far rows roster h legal row within (length rows) (omega arith) in
    let whole : take (length rows) all
    ≡ all = take_all (length rows) all (omega (arith, length-range_with_len 0 (length rows))) in
    let every : take (length rows) rows ≡ rows = take_all (length rows) rows (omega arith) in
    let few = births_are_few rows h legal row in
    let as_counted : count_by (is_born_child rows h row) all
    ≡ min (births_after h row) (children (row_at rows row).tid rows) =
    ap (count_by (is_born_child rows h row)) (sym whole) ∙ counted
    ∙ ap (λ rs. min (births_after h row) (children (row_at rows row).tid rs)) every in
    omega arith
