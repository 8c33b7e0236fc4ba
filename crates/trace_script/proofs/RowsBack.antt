-- The words of a row say that row.
use Rattle.std.proofs.Common.{◌≡◌, ◌<◌, [], nat_lt, lt-ltb, ◌≤◌, ◌&&◌, ◌||◌, ℕ, Bool, true, false, not, Option, Some}
use Rattle.std.proofs.Common.{None, List, Ok, length, arith, cond, eqb, eqb-true, le-leb, leb-true, nat_le, decimal}
use Rattle.std.proofs.Common.{is_some, refl, ap, ◌∙◌, inl, inr, ◌⊎◌, lit<}
use Rattle.std.proofs.lemmas.Bool.{and_from, and_parts, not-false, or_cases}
use Rattle.stop_history.specs.declared.limits.TheConstants.{LAST_ID, MOST_ROWS}
use Rattle.stop_history.specs.declared.roster.Row.{Row}
use Rattle.stop_history.specs.declared.roster.RosterError.{RosterError}
use Rattle.stop_history.specs.declared.roster.RosterError.TheVariants as fault
use Rattle.stop_history.specs.declared.roster.RosterError.TheVariants.{TooMany}
use Rattle.stop_history.specs.Roster.{IsRoster, family_fault, first_fault, or_later, push_fault, fault_after, has_ids}
use Rattle.stop_history.specs.Roster.{is_id, is_root, parent_in, with_tid}
use Rattle.text_lines.specs.Ranges.{◌>>=◌, number_between}
use Rattle.text_lines.proofs.Decimals.{decimal_between, decimal_is_word}
use Rattle.text_lines.proofs.Spelled.{AreWords, is_word}
use Rattle.trace_script.specs.RowWords.{id_of, row_of_words, spelled_row}

-- ---- ids

pub id_ends : (n : ℕ) → is_id n ≡ true → (1 ≤ n) × (n ≤ LAST_ID)
id_ends n id = let ends = and_parts (nat_le 1 n) (nat_le n LAST_ID) id in
    (leb-true 1 n ends.0, leb-true n LAST_ID ends.1)

pub ends_id : (n : ℕ) → 1 ≤ n → n ≤ LAST_ID → is_id n ≡ true
ends_id n least most = and_from (nat_le 1 n) (nat_le n LAST_ID) (le-leb 1 n least) (le-leb n LAST_ID most)

pub id_read : (n : ℕ) → is_id n ≡ true → id_of (decimal n) ≡ Ok n
id_read n id = let ends = id_ends n id in decimal_between 1 LAST_ID n ends.0 ends.1 (lit< tt)

pub up_to_last : (n : ℕ) → n ≤ LAST_ID → is_word (decimal n) ≡ true
up_to_last n most = decimal_is_word n (omega arith)

pub id_word : (n : ℕ) → is_id n ≡ true → is_word (decimal n) ≡ true
id_word n id = up_to_last n (id_ends n id).1

-- ---- rows

-- the ranges of a row's ids
pub record HasRanges (row : Row) : Type 0 where
  pub tid : is_id row.tid ≡ true
  pub tgid : is_id row.tgid ≡ true
  pub pgid : is_id row.pgid ≡ true
  pub parent : row.parent ≤ LAST_ID

parent_range : (n : ℕ) → (eqb n 0 ≡ true) ⊎ (is_id n ≡ true) → n ≤ LAST_ID
parent_range n (inl root) = let none : n ≡ 0 = eqb-true n 0 root in omega arith
parent_range n (inr child) = (id_ends n child).1

ranges : (row : Row) → has_ids row ≡ true → HasRanges row
ranges row h =
    let three = and_parts (is_id row.tid && is_id row.tgid && is_id row.pgid) (is_root row || is_id row.parent) h in
    let two = and_parts (is_id row.tid && is_id row.tgid) (is_id row.pgid) three.0 in
    let one = and_parts (is_id row.tid) (is_id row.tgid) two.0 in
    record {
      tid = one.0;
      tgid = one.1;
      pgid = two.1;
      parent = parent_range row.parent (or_cases (is_root row) (is_id row.parent) three.1);
    }

passed : (b : Bool) (fault : RosterError) (rest : Option RosterError) → cond b (Some fault) rest ≡ None → b ≡ false
passed true fault rest h = cc
passed false fault rest h = refl

-- a row without a fault has its ids in range
pub row_ranges : (before : List Row) (row : Row) → fault_after before row ≡ None → HasRanges row
row_ranges before row h =
    ranges row
    (not-false (has_ids row)
    (passed (not (has_ids row)) (fault.Number (length before))
    (cond (is_some (with_tid before row.tid)) (Some (fault.Twice (length before)))
    (family_fault (length before) row (parent_in before row))) h))

row_said : (a b c d : List ℕ) (row : Row) → id_of a ≡ Ok row.tid → id_of b ≡ Ok row.tgid → id_of c ≡ Ok row.pgid
    → number_between 0 LAST_ID d ≡ Ok row.parent → row_of_words a b c d ≡ Ok row
row_said a b c d row t g p q =
    ap (λ r. r >>= λ t. id_of b >>= λ g. id_of c >>= λ p. number_between 0 LAST_ID d >>= λ q. Ok
    (record { tid = t; tgid = g; pgid = p; parent = q })) t
    ∙ ap (λ r. r >>= λ g. id_of c >>= λ p. number_between 0 LAST_ID d >>= λ q. Ok
    (record { tid = row.tid; tgid = g; pgid = p; parent = q })) g
    ∙ ap (λ r. r >>= λ p. number_between 0 LAST_ID d >>= λ q. Ok
    (record { tid = row.tid; tgid = row.tgid; pgid = p; parent = q })) p
    ∙ ap (λ r. r >>= λ q. Ok (record { tid = row.tid; tgid = row.tgid; pgid = row.pgid; parent = q })) q

pub row_read : (row : Row) → HasRanges row
    → row_of_words (decimal row.tid) (decimal row.tgid) (decimal row.pgid) (decimal row.parent) ≡ Ok row
row_read row has =
    row_said (decimal row.tid) (decimal row.tgid) (decimal row.pgid) (decimal row.parent) row
    (id_read row.tid has.tid) (id_read row.tgid has.tgid) (id_read row.pgid has.pgid)
    (decimal_between 0 LAST_ID row.parent (omega arith) has.parent (lit< tt))

pub row_are_words : (row : Row) → HasRanges row → AreWords (spelled_row row)
row_are_words row has = (
  id_word row.tid has.tid,
  (id_word row.tgid has.tgid, (id_word row.pgid has.pgid, (up_to_last row.parent has.parent, tt))),
)

-- ---- rosters
found_none : (b : Bool) (fault : Option RosterError) (many : RosterError) → cond b fault (Some many) ≡ None
    → fault ≡ None
found_none true fault many h = h
found_none false fault many h = cc

pub rows_fine : (rows : List Row) → IsRoster rows → first_fault [] rows ≡ None
rows_fine rows roster = found_none _ _ _ roster

-- a row without a fault of its own is added where there is room
pub row_fits : (before : List Row) (row : Row) → length before < MOST_ROWS → fault_after before row ≡ None
    → push_fault before row ≡ None
row_fits before row room fits =
    ap (λ fault. or_later fault (cond (nat_lt (length before) MOST_ROWS) None (Some TooMany))) fits
    ∙ rw (lt-ltb (length before) MOST_ROWS room) refl
