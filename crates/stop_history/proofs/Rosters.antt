-- What the rows of a roster have to do with each other.
use Rattle.std.proofs.Common.{refl, ◌≡◌, ◌+◌, ◌<◌, ◌≤◌, ◌++◌, ◌∷◌, [], ℕ, zero, suc, Bool, true, false, not, ◌&&◌}
use Rattle.std.proofs.Common.{◌||◌, Some, None, Option, List, length, take, is_some, arith, take-take, get_or-take}
use Rattle.std.proofs.Common.{length-take, min, ◌∙◌, sym, ap, inl, inr, append_assoc, append-nil, eqb, eqb-true}
use Rattle.std.proofs.Common.{eq-eqb, nat_le, if◌then◌else◌, leb-true, ltb-true, le-leb, nat_lt, length-append, cond}
use Rattle.std.proofs.Common.{count_by}
use Rattle.std.proofs.lemmas.Bool.{and_parts, cases_Bool, cases_order, not-false, or_cases}
use Rattle.std.proofs.lemmas.List.Quantifiers.{position-Some}
use Rattle.std.proofs.lemmas.List.Sums.{count_by_more_yes, sum_by-take-le}
use Rattle.stop_history.specs.declared.roster.Row.{Row}
use Rattle.stop_history.specs.declared.roster.RosterError.{RosterError}
use Rattle.stop_history.specs.declared.roster.RosterError.TheVariants as fault
use Rattle.stop_history.specs.Roster.{IsChild, IsPlaced, is_id, IsRoster, fault_after, family_fault, first_fault}
use Rattle.stop_history.specs.Roster.{has_ids, is_child_of, is_leader, is_root, nobody, or_later, parent_in}
use Rattle.stop_history.specs.Roster.{push_fault, parent_of, rank_of, row_at, row_of, with_tid}
use Rattle.stop_history.specs.declared.limits.TheConstants.{LAST_ID, MOST_ROWS}
use Rattle.stop_history.proofs.Places.{fails_each, first_place, found_in_front}

-- of two faults, the first that there is
pub both_none : (first later : Option RosterError) → or_later first later ≡ None → (first ≡ None) × (later ≡ None)
both_none None later h = (refl, h)
both_none (Some fault) later h = cc

-- rows without a fault have none at each row
pub fits_at : (before rows : List Row) (i : ℕ) → i < length rows → first_fault before rows ≡ None
    → fault_after (before ++ take i rows) (row_at rows i) ≡ None
fits_at before [] i within h = absurd (omega arith)
fits_at before (row ∷ rows) zero within h = rw append-nil (both_none _ _ h).0
fits_at before (row ∷ rows) (suc i) within h =
    ap (λ b. fault_after b (row_at rows i)) (sym (append_assoc before (row ∷ []) (take i rows)))
    ∙ fits_at (before ++ row ∷ []) rows i (omega arith) (both_none _ _ h).1

few_or_none : (b : Bool) (fault : Option RosterError) (many : RosterError) → cond b fault (Some many) ≡ None
    → (b ≡ true) × (fault ≡ None)
few_or_none true fault many h = (refl, h)
few_or_none false fault many h = cc

pub few_rows : (rows : List Row) → IsRoster rows → length rows ≤ MOST_ROWS
few_rows rows roster = leb-true _ _ (few_or_none _ _ _ roster).0

passed : (b : Bool) (fault : RosterError) (rest : Option RosterError) → cond b (Some fault) rest ≡ None → (b ≡ false)
    × (rest ≡ None)
passed true fault rest h = cc
passed false fault rest h = (refl, h)

nobody_found : (o : Option Row) → is_some o ≡ false → o ≡ None
nobody_found None h = refl
nobody_found (Some row) h = cc

-- what a row without a fault has
record IsFitted (before : List Row) (row : Row) : Type 0 where
  ids : has_ids row ≡ true
  new : with_tid before row.tid ≡ None
  family : family_fault (length before) row (parent_in before row) ≡ None

fitted : (before : List Row) (row : Row) → fault_after before row ≡ None → IsFitted before row
fitted before row h =
    let first = passed (not (has_ids row)) (fault.Number (length before))
    (cond (is_some (with_tid before row.tid)) (Some (fault.Twice (length before)))
    (family_fault (length before) row (parent_in before row))) h in
    let second = passed (is_some (with_tid before row.tid)) (fault.Twice (length before))
    (family_fault (length before) row (parent_in before row)) first.1 in
    record {
      ids = not-false (has_ids row) first.0;
      new = nobody_found
          (with_tid before row.tid) second.0;
      family = second.1;
    }

-- each row of a roster is fitted after those before it
fits : (rows : List Row) → IsRoster rows → (i : ℕ) → i < length rows → IsFitted (take i rows) (row_at rows i)
fits rows roster i within = fitted _ _ (fits_at [] rows i within (few_or_none _ _ _ roster).1)

-- each row is found by its tid
pub row_of-tid : (rows : List Row) → IsRoster rows → (i : ℕ) → i < length rows
    → row_of rows (row_at rows i).tid ≡ Some i
row_of-tid rows roster i within =
    first_place (λ q. eqb q.tid (row_at rows i).tid) rows i nobody within
    (λ k before.
    sym (ap (λ (q : Row). eqb q.tid (row_at rows i).tid) (get_or-take i rows k nobody before))
    ∙ fails_each (λ q. eqb q.tid (row_at rows i).tid) (take i rows) k nobody (fits rows roster i within).new
    (let size : length (take i rows) ≡ min i (length rows) = length-take i rows in omega arith))
    (eq-eqb _ _ refl)

-- a row with a parent has it among the rows before it, and their ids go together
pub record HasParent (rows : List Row) (row parent : ℕ) : Type 0 where
  pub before : parent < row
  pub tid : (row_at rows parent).tid ≡ (row_at rows row).parent
  pub family : is_child_of (row_at rows parent) (row_at rows row) ≡ true

no_mismatch : (b : Bool) (fault : RosterError) → cond b None (Some fault) ≡ None → b ≡ true
no_mismatch true fault h = refl
no_mismatch false fault h = cc

-- what a family without a fault is
family_of : (at : ℕ) (row : Row) (parent : Option Row) → is_root row ≡ false → family_fault at row parent ≡ None
    → (p : Row) × (parent ≡ Some p) × (is_child_of p row ≡ true)
family_of at row None child h =
    let b : not (is_root row) ≡ true = ap not child in
    absurd (let e : Some (fault.ParentLater at) ≡ None = sym (rw b) ∙ h in cc)
family_of at row (Some p) child h = (p, refl, no_mismatch _ _ h)

-- each place found has the tid
pub row_of-Some : (rows : List Row) (tid k : ℕ) → row_of rows tid ≡ Some k → (k < length rows)
    × ((row_at rows k).tid ≡ tid)
row_of-Some rows tid k h =
    let found = position-Some (λ (q : Row). eqb q.tid tid) rows k nobody h in
    (found.0, eqb-true _ _ found.1)

some_parent : (root : Bool) (place : Option ℕ) (parent : ℕ) → cond root None place ≡ Some parent → (root ≡ false)
    × (place ≡ Some parent)
some_parent true place parent h = cc
some_parent false place parent h = (refl, h)

pub parent_of-Some : (rows : List Row) → IsRoster rows → (row parent : ℕ) → row < length rows
    → parent_of rows row ≡ Some parent → HasParent rows row parent
parent_of-Some rows roster row parent within h =
    let child = some_parent (is_root (row_at rows row)) (row_of rows (row_at rows row).parent) parent h in
    let there : parent_in (take row rows) (row_at rows row)
    ≡ with_tid (take row rows) (row_at rows row).parent = rw child.0 in
    let family = family_of (length (take row rows)) (row_at rows row)
    (parent_in (take row rows) (row_at rows row)) child.0 (fits rows roster row within).family in
    let place = found_in_front (λ (q : Row). eqb q.tid (row_at rows row).parent) rows row family.0 nobody
    (sym there ∙ family.1) in
    let same : place.0 ≡ parent = let e : Some place.0 ≡ Some parent = sym place.3 ∙ child.1 in cc in
    record {
      before = rw same at place.1;
      tid = (row_of-Some rows (row_at rows row).parent parent child.1).1;
      family = ap (λ (p : Row). is_child_of p (row_at rows row)) (sym (ap (λ k. row_at rows k) same) ∙ place.4)
          ∙ family.2;
    }

rank_grows : (rows : List Row) (i j : ℕ) → i < length rows → j < length rows → i < j
    → (row_at rows i).parent ≡ (row_at rows j).parent → rank_of rows i < rank_of rows j
rank_grows rows i j within_i within_j before parents =
    let test : Row → Bool = λ q. eqb q.parent (row_at rows j).parent in
    let one_more : count_by test (take (i + 1) rows)
    ≡ count_by test (take i rows) + 1 = count_by_more_yes test rows i nobody within_i (eq-eqb _ _ parents) in
    let part : count_by test (take (i + 1) (take j rows)) ≤ count_by test (take j rows) = sum_by-take-le
    (λ q. cond (test q) 1 0) (take j rows) (i + 1) in
    let shorter : take (i + 1) (take j rows) ≡ take (i + 1) rows = take-take (i + 1) j rows (omega arith) in
    let same : rank_of rows i
    ≡ count_by test (take i rows) = ap (λ p. count_by (λ (q : Row). eqb q.parent p) (take i rows)) parents in
    let counted : count_by test (take (i + 1) rows) ≤ count_by test (take j rows) = rw shorter at part in
    omega arith

-- children of one parent with one rank are one
pub same_rank : (rows : List Row) (i j : ℕ) → i < length rows → j < length rows
    → (row_at rows i).parent ≡ (row_at rows j).parent → rank_of rows i ≡ rank_of rows j → i ≡ j
same_rank rows i j within_i within_j parents ranks =
    elim (cases_order i j) [
      | inl same ↦ same
      | inr (inl before) ↦ absurd (omega (arith, rank_grows rows i j within_i within_j before parents))
      | inr (inr after) ↦ absurd (omega (arith, rank_grows rows j i within_j within_i after (sym parents)))
    ]

-- ---- the facts of the law on placed rows

pub tid_in_range : (rows : List Row) → IsRoster rows → (row : ℕ) → row < length rows → (1 ≤ (row_at rows row).tid)
    × ((row_at rows row).tid ≤ LAST_ID)
tid_in_range rows roster row within =
    let it : Row = row_at rows row in
    let ids = (fits rows roster row within).ids in
    let three = (and_parts (is_id it.tid && is_id it.tgid && is_id it.pgid) (is_root it || is_id it.parent) ids).0 in
    let two = (and_parts (is_id it.tid && is_id it.tgid) (is_id it.pgid) three).0 in
    let one = (and_parts (is_id it.tid) (is_id it.tgid) two).0 in
    let ends = and_parts (nat_le 1 it.tid) (nat_le it.tid LAST_ID) one in
    (leb-true 1 it.tid ends.0, leb-true it.tid LAST_ID ends.1)

-- a row that is not a root has a parent
pub has_parent : (rows : List Row) → IsRoster rows → (row : ℕ) → row < length rows → is_root (row_at rows row) ≡ false
    → (parent : ℕ) × (parent_of rows row ≡ Some parent)
has_parent rows roster row within child =
    let there : parent_in (take row rows) (row_at rows row)
    ≡ with_tid (take row rows) (row_at rows row).parent = rw child in
    let family = family_of (length (take row rows)) (row_at rows row)
    (parent_in (take row rows) (row_at rows row)) child (fits rows roster row within).family in
    let place = found_in_front (λ (q : Row). eqb q.tid (row_at rows row).parent) rows row family.0 nobody
    (sym there ∙ family.1) in
    (place.0, ap (λ b. cond b None (row_of rows (row_at rows row).parent)) child ∙ place.3)

root_leads : (at : ℕ) (row : Row) (parent : Option Row) → is_root row ≡ true → parent ≡ None
    → family_fault at row parent ≡ None → is_leader row ≡ true
root_leads at row None root none h =
    let e : (if is_leader row then None else Some (fault.GroupMismatch at)) ≡ None = rw root at h in no_mismatch _ _ e
root_leads at row (Some parent) root none h = cc

pub root_is_leader : (rows : List Row) → IsRoster rows → (row : ℕ) → row < length rows
    → is_root (row_at rows row) ≡ true → is_leader (row_at rows row) ≡ true
root_is_leader rows roster row within root =
    root_leads (length (take row rows)) (row_at rows row) (parent_in (take row rows) (row_at rows row)) root (rw root)
    (fits rows roster row within).family

pub no_root : (rows : List Row) → IsRoster rows → (row : ℕ) → row < length rows → parent_of rows row ≡ None
    → is_root (row_at rows row) ≡ true
no_root rows roster row within none =
    elim (cases_Bool (is_root (row_at rows row))) [
      | inl root ↦ root
      | inr child ↦ let found = has_parent rows roster row within child in
          let clash : Some found.0 ≡ None = sym found.1 ∙ none in cc
    ]

child_of_parent : (parent row : Row) → row.parent ≡ parent.tid → is_child_of parent row ≡ true → IsChild parent row
child_of_parent parent row tid family =
    let both = and_parts (is_leader row || eqb row.tgid parent.tgid) (eqb row.pgid parent.pgid) family in
    record {
      parent_tid = tid;
      group = elim (or_cases (is_leader row) (eqb row.tgid parent.tgid) both.0) [
        | inl leads ↦ inl (eqb-true row.tgid row.tid leads)
        | inr shares ↦ inr (eqb-true row.tgid parent.tgid shares)
      ];
      process_group = eqb-true row.pgid parent.pgid both.1;
    }

pub placed : (rows : List Row) → IsRoster rows → (row : ℕ) → row < length rows → IsPlaced rows row
placed rows roster row within = record {
  tid = tid_in_range rows roster row within;
  found = row_of-tid rows roster row within;
  root = λ none.
      let root = no_root rows roster row within none in
      (eqb-true _ _ root, eqb-true _ _ (root_is_leader rows roster row within root));
  child = λ parent of_parent.
      let known = parent_of-Some rows roster row parent within of_parent in
      (known.before, child_of_parent (row_at rows parent) (row_at rows row) (sym known.tid) known.family);
}

-- ---- one more row

none_both : (first later : Option RosterError) → first ≡ None → later ≡ None → or_later first later ≡ None
none_both None later first_none later_none = later_none
none_both (Some fault) later first_none later_none = cc

grows : (before rows : List Row) (row : Row) → first_fault before rows ≡ None → fault_after (before ++ rows) row ≡ None
    → first_fault before (rows ++ row ∷ []) ≡ None
grows before [] row fine fits =
    none_both (fault_after before row) None (ap (λ b. fault_after b row) (sym (append-nil before)) ∙ fits) refl
grows before (first ∷ rows) row fine fits =
    let parts = both_none (fault_after before first) (first_fault (before ++ first ∷ []) rows) fine in
    none_both (fault_after before first) (first_fault (before ++ first ∷ []) (rows ++ row ∷ [])) parts.0
    (grows (before ++ first ∷ []) rows row parts.1
    (ap (λ b. fault_after b row) (append_assoc before (first ∷ []) rows) ∙ fits))

room : (b : Bool) (many : RosterError) → cond b None (Some many) ≡ None → b ≡ true
room true many h = refl
room false many h = cc

-- a roster is one still with one more row that has no fault
pub one_more : (rows : List Row) (row : Row) → IsRoster rows → push_fault rows row ≡ None → IsRoster (rows ++ row ∷ [])
one_more rows row roster none =
    let parts = both_none (fault_after rows row)
    (cond (nat_lt (length rows) MOST_ROWS) None (Some fault.TooMany)) none in
    let there : length rows < MOST_ROWS = ltb-true _ _ (room (nat_lt (length rows) MOST_ROWS) fault.TooMany parts.1) in
    let few : length (rows ++ row ∷ []) ≤ MOST_ROWS = omega (arith, length-append rows (row ∷ [])) in
    rw (le-leb _ _ few) (grows [] rows row (few_or_none _ _ _ roster).1 parts.0)

pub no_fault : (found : Option RosterError) → ((fault : RosterError) → found ≡ Some fault → ⊥) → found ≡ None
no_fault None none = refl
no_fault (Some fault) none = absurd (none fault refl)
