-- The rows of a folder, after one more piece.
use Rattle.std.proofs.Common.{◌≡◌, ◌<◌, ◌≤◌, ◌∷◌, [], ℕ, List, Option, Some, None, refl, sym, ap, ◌∙◌, length}
use Rattle.std.proofs.Common.{eqb, true, false, is_some, cond, inl, inr, slice_set, eq-eqb, ne_eqb, Err, Ok, Result}
use Rattle.std.proofs.Common.{is_ok, zero, suc, ◌++◌, OnOk, OnErr, IsOkUnless, slice_index_or}
use Rattle.record_printer.proofs.Options.{some_none}
use Rattle.record_printer.specs.PieceOf.{piece_of}
use Rattle.record_printer.specs.declared.fold.error.FoldError.{FoldError}
use Rattle.record_printer.specs.declared.fold.error.FoldError.TheVariants as refused
use Rattle.record_printer.specs.declared.piece.Given.{Given}
use Rattle.record_printer.specs.declared.piece.Given.TheVariants as gives
use Rattle.std.proofs.lemmas.Bool.{cases_eq}
use Rattle.std.proofs.lemmas.List.{get_or-set_same, get_or-set_other, get_or_default, set-get_or}
use Rattle.record_printer.proofs.Early.{at_other, at_same}
use Rattle.record_printer.proofs.Pieces.{keeps_death, keeps_other, keeps_other_death, keeps_stop}
use Rattle.record_printer.specs.Came.{is_child, stop_of}
use Rattle.record_printer.specs.RowAnswers.{death_fault, stop_fault}
use Rattle.record_printer.specs.FolderAnswers.{refusal}
use Rattle.record_printer.specs.Kept.{Kept, empty_row}
use Rattle.record_printer.specs.Note.{Note}
use Rattle.record_printer.specs.Piece.{Piece, Stopped, Died}
use Rattle.record_printer.specs.Represents.{AddsStopAt, Folded, KeepsRow, Represents, kept_at, with_name}
use Rattle.stop_history.proofs.Rosters.{row_of-Some, row_of-tid}
use Rattle.stop_history.specs.Roster.{IsRoster, row_at, row_of}
use Rattle.stop_history.specs.declared.roster.Row.{Row}
use Rattle.trace_record.specs.declared.death.Death.{Death}

pub kept_set : (kept : List Kept) (row r : ℕ) (x : Kept) → row < length kept
    → kept_at (slice_set kept row x) r ≡ cond (eqb row r) x (kept_at kept r)
kept_set kept row r x within =
    elim (cases_eq row r) [
      | inl same ↦ rw (← same)
          (get_or-set_same kept row x empty_row within ∙ sym (at_same row row x (kept_at kept row) refl))
      | inr apart ↦ get_or-set_other kept row r x empty_row (λ e. apart (sym e)) ∙ sym
          (at_other row r x (kept_at kept r) apart)
    ]

same_place : (i j : ℕ) → Some i ≡ Some j → i ≡ j
same_place i j e = cc

-- a thread id is that of its row alone
pub tid_at : (rows : List Row) (tid row r : ℕ) → IsRoster rows → row_of rows tid ≡ Some row → r < length rows
    → eqb tid (row_at rows r).tid ≡ eqb row r
tid_at rows tid row r roster found within =
    elim (cases_eq row r) [
      | inl same ↦ rw (eq-eqb row r same)
          (eq-eqb tid (row_at rows r).tid (sym (rw (← same) (row_of-Some rows tid row found).1)))
      | inr apart ↦ rw (ne_eqb row r apart) (ne_eqb tid (row_at rows r).tid (λ e. apart
          (same_place row r (sym found ∙ ap (row_of rows) e ∙ row_of-tid rows roster r within))))
    ]

place_none : (i : ℕ) → None ≡ Some i → ⊥
place_none i e = cc

-- a thread id without a row is that of none
pub tid_nowhere : (rows : List Row) (tid r : ℕ) → IsRoster rows → row_of rows tid ≡ None → r < length rows
    → eqb tid (row_at rows r).tid ≡ false
tid_nowhere rows tid r roster none within =
    ne_eqb tid (row_at rows r).tid (λ e. place_none r (sym none ∙ ap (row_of rows) e ∙ row_of-tid rows roster r within))

-- ---- the child that a stop creates

pub child_found : (rows : List Row) (kept : List Kept) (child row r : ℕ) (x : Kept) → IsRoster rows
    → row < length kept → row_of rows child ≡ Some row → r < length rows
    → x ≡ record (kept_at kept row) { named = true }
    → kept_at (slice_set kept row x) r ≡ with_name (is_child (row_at rows r).tid (Some child)) (kept_at kept r)
child_found rows kept child row r x roster inside found within named =
    kept_set kept row r x inside ∙ elim (cases_eq row r) [
      | inl same ↦ rw (tid_at rows child row r roster found within, eq-eqb row r same) (named ∙ rw same refl)
      | inr apart ↦ rw (tid_at rows child row r roster found within, ne_eqb row r apart) refl
    ]

pub child_nowhere : (rows : List Row) (kept : List Kept) (child r : ℕ) → IsRoster rows → row_of rows child ≡ None
    → r < length rows → kept_at kept r ≡ with_name (is_child (row_at rows r).tid (Some child)) (kept_at kept r)
child_nowhere rows kept child r roster none within = rw (tid_nowhere rows child r roster none within) refl

abbrev pub as_named : Kept → Kept
as_named kept = record kept { named = true }

-- ---- the pieces that a folder represents

-- what is kept of the row that a piece is of
pub keeps_at : (rows : List Row) (kept : List Kept) (came : List Piece) (tid row : ℕ)
    → Represents (record { rows = rows; kept = kept }) came → row_of rows tid ≡ Some row
    → KeepsRow (kept_at kept row) tid came
keeps_at rows kept came tid row stands found =
    let place = row_of-Some rows tid row found in
    rw place.1 at (stands.each row place.0)

pub stop_added : (rows : List Row) (old new : List Kept) (came : List Piece) (tid row number : ℕ) (note : Note)
    → IsRoster rows → Represents (record { rows = rows; kept = old }) came → row_of rows tid ≡ Some row
    → refusal rows came (Stopped tid number note) ≡ None → 1 ≤ number → AddsStopAt rows old new row number note
    → Represents (record { rows = rows; kept = new }) (Stopped tid number note ∷ came)
stop_added rows old new came tid row number note roster stands found taken positive added =
    record {
      taken = (taken, stands.taken);
      each = λ r within. rw (added.each r within) (elim (cases_eq row r) [
        | inl same ↦
            let place : (row_at rows r).tid ≡ tid = rw (← same) (row_of-Some rows tid row found).1 in
            rw (at_same row r added.after (kept_at old r) same, place)
            (keeps_stop (kept_at old row) added.after tid number note came
            (keeps_at rows old came tid row stands found) added.added positive)
        | inr apart ↦
            let other = tid_at rows tid row r roster found within ∙ ne_eqb row r apart in
            rw (at_other row r added.after (kept_at old r) apart)
            (keeps_other (kept_at old r) (row_at rows r).tid tid number note came (stands.each r within) other)
      ]);
    }

pub death_added : (rows : List Row) (old : List Kept) (came : List Piece) (tid row number : ℕ) (death : Death)
    (x : Kept) → IsRoster rows → row < length old → Represents (record { rows = rows; kept = old }) came
    → row_of rows tid ≡ Some row → refusal rows came (Died tid number death) ≡ None
    → x ≡ record (kept_at old row) { ending = Some (record { number = number; death = death }) }
    → Represents (record { rows = rows; kept = slice_set old row x }) (Died tid number death ∷ came)
death_added rows old came tid row number death x roster inside stands found taken after =
    record {
      taken = (taken, stands.taken);
      each = λ r within. rw (kept_set old row r x inside) (elim (cases_eq row r) [
        | inl same ↦
            let place : (row_at rows r).tid ≡ tid = rw (← same) (row_of-Some rows tid row found).1 in
            rw (at_same row r x (kept_at old r) same, place, after)
            (keeps_death (kept_at old row) tid number death came (keeps_at rows old came tid row stands found))
        | inr apart ↦
            let other = tid_at rows tid row r roster found within ∙ ne_eqb row r apart in
            rw (at_other row r x (kept_at old r) apart)
            (keeps_other_death (kept_at old r) (row_at rows r).tid tid number death came (stands.each r within) other)
      ]);
    }

-- ---- the faults of a piece

pub stop_fault_same : (rows : List Row) (kept : List Kept) (came : List Piece) (tid row number : ℕ) (note : Note)
    → Represents (record { rows = rows; kept = kept }) came → row_of rows tid ≡ Some row
    → refusal rows came (Stopped tid number note)
    ≡ stop_fault (kept_at kept row).ending (is_some (stop_of tid came number)) number
stop_fault_same rows kept came tid row number note stands found =
    let keeps = keeps_at rows kept came tid row stands found in
    rw (found, keeps.ending) refl

pub death_fault_same : (rows : List Row) (kept : List Kept) (came : List Piece) (tid row number : ℕ) (death : Death)
    → Represents (record { rows = rows; kept = kept }) came → row_of rows tid ≡ Some row
    → refusal rows came (Died tid number death)
    ≡ death_fault (kept_at kept row).ending (kept_at kept row).last number
death_fault_same rows kept came tid row number death stands found =
    let keeps = keeps_at rows kept came tid row stands found in
    rw (found, keeps.ending, keeps.last) refl

err_not_ok : {E : Type 0} (error : E) → (let result : Result (Unit {0}) E = Err error in is_ok result ≡ true) → ⊥
err_not_ok error e = cc

-- a piece that is added was not refused
pub none_if_ok : {E : Type 0} (fault : Option E) (result : Result (Unit {0}) E)
    → ((error : E) → fault ≡ Some error → result ≡ Err error) → is_ok result ≡ true → fault ≡ None
none_if_ok None result answers ok = refl
none_if_ok (Some error) result answers ok = absurd (err_not_ok error (rw (answers error refl) at ok))

-- ---- new rows

pub new_push : (kept : List Kept) → ((r : ℕ) → kept_at kept r ≡ empty_row) → (r : ℕ)
    → kept_at (kept ++ empty_row ∷ []) r ≡ empty_row
new_push [] new zero = refl
new_push [] new (suc r) = refl
new_push (row ∷ kept) new zero = new 0
new_push (row ∷ kept) new (suc r) = new_push kept (λ n. new (suc n)) r

-- ---- the answer to a piece

pub nowhere : {Z : Type 0} (rows : List Row) (came : List Piece) (tid number : ℕ) (given : Given Z)
    → row_of rows tid ≡ None → refusal rows came (piece_of tid number given) ≡ Some refused.Stranger
nowhere rows came tid number (gives.Stop note) none = rw none refl
nowhere rows came tid number (gives.Death death) none = rw none refl

abbrev pub answer : FoldError → Result (Unit {0}) FoldError
answer error = Err error

pub stranger_is : (fault : Option FoldError) (error : FoldError) → fault ≡ Some refused.Stranger → fault ≡ Some error
    → answer refused.Stranger ≡ answer error
stranger_is fault error here there = cc

pub stranger_none : (fault : Option FoldError) {P : Type 0} → fault ≡ Some refused.Stranger → fault ≡ None → P
stranger_none fault here there = absurd (some_none (sym here ∙ there))

pub on_ok : {P Q : Type 0} (result : Result (Unit {0}) FoldError) → OnOk result P
    → (is_ok result ≡ true → P → Q) → OnOk result Q
on_ok (Ok done) p go = go refl p
on_ok (Err error) p go = p

pub on_ok_both : {P Q R : Type 0} (result : Result (Unit {0}) FoldError) → OnOk result P → OnOk result Q
    → (is_ok result ≡ true → P → Q → R) → OnOk result R
on_ok_both (Ok done) p q go = go refl p q
on_ok_both (Err error) p q go = p

-- a change that put an element back
pub set_back : {E : Type 0} (kept : List Kept) (row : ℕ) (d x : Kept) (result : Result (Unit {0}) E)
    → OnErr result (x ≡ slice_index_or kept row d) → OnErr result (slice_set kept row x ≡ kept)
set_back kept row d x (Ok done) same = tt
set_back kept row d x (Err error) same = rw same (set-get_or kept row d)

pub ok_unless : (result : Result (Unit {0}) FoldError) (error : FoldError) → is_ok result ≡ true
    → IsOkUnless result error
ok_unless (Ok done) error ok = tt
ok_unless (Err fault) error ok = absurd (err_not_ok fault ok)

-- the rows that are kept are as they were, so the folder is
pub folded_back : (rows : List Row) (old new written : List Kept) (result : Result (Unit {0}) FoldError)
    → written ≡ new → OnErr result (new ≡ old)
    → OnErr result (◌≡◌ {A = Folded} (record { rows = rows; kept = written }) (record { rows = rows; kept = old }))
folded_back rows old new written (Ok done) is same = tt
folded_back rows old new written (Err error) is same = rw (is, same) refl

-- what an index reads
pub kept_read : (kept : List Kept) (place : ℕ) (x : Kept) → x ≡ slice_index_or kept place x → place < length kept
    → x ≡ kept_at kept place
kept_read kept place x read within = read ∙ get_or_default kept place x empty_row within
