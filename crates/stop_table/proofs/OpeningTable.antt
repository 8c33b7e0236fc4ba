-- The opening table meets the rule: no event, each row fresh with its empty record at home, one view that acts for all.
use Rattle.std.proofs.Common.{refl, ◌≡◌, ◌<◌, ◌+◌, ◌-◌, ◌++◌, ◌∷◌, [], ℕ, zero, suc, false, List, Option, None, Some}
use Rattle.std.proofs.Common.{length, get_or, map, replicate, arith, ◌∙◌, sym, ap, subst, inl}
use Rattle.std.proofs.lemmas.Bool.{false≢true}
use Rattle.std.proofs.lemmas.List.{append-nil, append_assoc, get_or-append-add, get_or-replicate, length-append, length-map, length-replicate}
use mathlib.Core.Option.{some, some-injective, some-ne-none}
use lib.ListN.{get_elem?}
use Rattle.atomic_table.specs.Table.{opening}
use Rattle.atomic_table.proofs.Lists.{at_index, at_map}
use Rattle.trace_record.specs.Content.{Content, empty_content}
use Rattle.stop_history.specs.declared.roster.Row.{Row}
use Rattle.stop_history.specs.Roster.{IsRoster, row_at}
use Rattle.stop_table.specs.declared.cells.TheConstants.{PLACES}
use Rattle.stop_table.specs.Opening.{empty_slots, everyone, slots_with}
use Rattle.stop_table.specs.Place.{place}
use Rattle.stop_table.specs.Rule.{IsViewOf, KeepsRule, RowKept}
use Rattle.stop_table.specs.View.{View}
use Rattle.stop_table.proofs.Numbers.{among_range}

-- what is at a place of a list of one
lone : (x v : View) (i : ℕ) → get_elem? (x ∷ []) i ≡ some v → (i ≡ 0) × (x ≡ v)
lone x v zero at = (refl, some-injective x v at)
lone x v (suc i) at = absurd (some-ne-none v (sym at))

-- the slots of one row more
pub slots_more : (rows : List Row) (row : Row)
    → empty_slots (rows ++ row ∷ []) ≡ empty_slots rows ++ slots_with (empty_content row.tid)
slots_more [] row = append-nil (slots_with (empty_content row.tid))
slots_more (first ∷ rows) row =
    ap (λ l. slots_with (empty_content first.tid) ++ l) (slots_more rows row)
    ∙ sym (append_assoc (slots_with (empty_content first.tid)) (empty_slots rows) (slots_with (empty_content row.tid)))

pub slots_wide : (content : Content) → length (slots_with content) ≡ PLACES
slots_wide content =
    let nothing : Option Content = None in
    let others = length-replicate (PLACES - 1) nothing in omega arith

pub slots_long : (rows : List Row) → length (empty_slots rows) ≡ place (length rows)
slots_long [] = refl
slots_long (row ∷ rows) =
    let others = slots_long rows in
    let wide = slots_wide (empty_content row.tid) in
    length-append (slots_with (empty_content row.tid)) (empty_slots rows) ∙ omega arith

slot_or : (rows : List Row) (row : ℕ) (other : Option Content) → row < length rows
    → get_or (empty_slots rows) (place row) other ≡ Some (empty_content (row_at rows row).tid)
slot_or [] row other low = absurd (omega arith)
slot_or (first ∷ rows) zero other low = refl
slot_or (first ∷ rows) (suc row) other low =
    let front = slots_with (empty_content first.tid) in
    let wide = slots_wide (empty_content first.tid) in
    let behind : place (suc row) ≡ length front + place row = omega arith in
    ap (λ i. get_or (empty_slots (first ∷ rows)) i other) behind
    ∙ get_or-append-add front (empty_slots rows) (place row) other ∙ slot_or rows row other (omega arith)

-- a row's slot has its empty record
slot_at : (rows : List Row) (row : ℕ) → row < length rows
    → get_elem? (empty_slots rows) (place row) ≡ some (Some (empty_content (row_at rows row).tid))
slot_at rows row low =
    let long = slots_long rows in
    let record_is : Option Content = Some (empty_content (row_at rows row).tid) in
    at_index (empty_slots rows) (place row) record_is (omega arith) (sym (slot_or rows row record_is low))

-- a row's word is that of a fresh row, and its slot has its empty record
opens_row : (rows : List Row) (words : List ℕ) (slots : List (Option Content))
    → words ≡ replicate (place (length rows) + 1) 0 → slots ≡ empty_slots rows → (row : ℕ) → row < length rows
    → RowKept rows (opening words slots (everyone rows)) [] (λ r. false) row
opens_row rows words slots words_are slots_are row low = record {
  word = ap (λ ws. get_or ws (place row) 0) words_are
      ∙ get_or-replicate (place (length rows) + 1) (place row) 0 0 (omega arith);
  home = (
    some (Some (empty_content (row_at rows row).tid)),
    ap (λ (xs : List (Option Content)). get_elem? (map some xs) (place row)) slots_are
        ∙ at_map some (empty_slots rows) (place row) (Some (empty_content (row_at rows row).tid)) (slot_at rows row low),
    refl,
  );
}

follows_nothing : (rows : List Row) (v : View) → everyone rows ≡ v → IsViewOf [] (λ r. false) v
follows_nothing rows v is = subst (IsViewOf [] (λ r. false)) is record {
  more = [];
  goes_on = refl;
  quiet = tt;
  knows = λ row among. refl;
  told = tt;
}

-- the table with these words and slots, and one view for all, meets the rule
pub opens : (rows : List Row) (words : List ℕ) (slots : List (Option Content)) → IsRoster rows
    → words ≡ replicate (place (length rows) + 1) 0 → slots ≡ empty_slots rows
    → KeepsRule rows (opening words slots (everyone rows))
opens rows words slots roster words_are slots_are = record {
  history = [];
  taken = λ r. false;
  placed = roster;
  legal = tt;
  words_are = ap length words_are ∙ length-replicate (place (length rows) + 1) 0;
  further = ap (λ ws. get_or ws (place (length rows)) 0) words_are
      ∙ get_or-replicate (place (length rows) + 1) (place (length rows)) 0 0 (omega arith);
  homes_are = length-map slots some ∙ ap length slots_are ∙ slots_long rows;
  up = λ row taken. absurd (false≢true taken);
  rows = opens_row rows words slots words_are slots_are;
  follows = λ i v at. follows_nothing rows v (lone (everyone rows) v i at).1;
  alone = λ i j v w a at_i at_j acts_v acts_w.
      (lone (everyone rows) v i at_i).0 ∙ sym (lone (everyone rows) w j at_j).0;
  acted = λ row low. (0, everyone rows, refl, among_range (length rows) row low);
  seen = inl refl;
}
