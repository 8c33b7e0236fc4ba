-- The pieces of a run in which every born row has died: none is missing, and their text is that of the history.
use Rattle.std.proofs.Common.{refl, ◌≡◌, ◌≢◌, ◌<◌, ◌≤◌, ◌+◌, ◌==◌, ◌&&◌, ◌||◌, ◌∷◌, ◌++◌, [], ℕ, zero, suc, Bool, true, false}
use Rattle.std.proofs.Common.{not, List, Option, Some, None, is_some, length, ◌∙◌, sym, ap}
use Rattle.std.proofs.Common.{inl, inr, eq-eqb, ne_eqb, eqb-true, arith, cond, append_assoc, find, length-append}
use Rattle.std.specs.List.{flat_map, list_any, range_with_len}
use Rattle.std.proofs.Math.Seq.{get_or-append_seam}
use Rattle.std.proofs.lemmas.Bool.{and_parts, cases_Bool, cases_eq}
use Rattle.trace_record.specs.Content.{Content}
use Rattle.trace_record.specs.Stop.{child_of}
use Rattle.trace_record.specs.declared.death.Death.{Death}
use Rattle.trace_record.specs.declared.stop.Stop.{Stop}
use Rattle.trace_record.specs.declared.stop.Stop.TheVariants as stop
use Rattle.stop_history.specs.declared.roster.Row.{Row}
use Rattle.stop_history.specs.Event as event
use Rattle.stop_history.specs.Event.{Event, events_of, subject}
use Rattle.stop_history.specs.History.{Fits, is_next_child, names_next}
use Rattle.stop_history.specs.Roster.{IsRoster, is_root, nobody, parent_of, row_at, row_of}
use Rattle.stop_history.specs.State.{creates, is_birth, is_born, number_in, was_created}
use Rattle.stop_history.proofs.Events.{other_events, own_events}
use Rattle.stop_history.proofs.Longer.{born_stays, unborn_is_silent}
use Rattle.stop_history.proofs.Rosters.{row_of-tid, tid_in_range}
use Rattle.stop_history.proofs.States.{fits_within}
use Rattle.stop_table.specs.Entry.{AreLegal, Entry, IsCarried, content_after, history_of}
use Rattle.stop_table.proofs.Entries.{legal_history}
use Rattle.record_printer.specs.Came.{child_noted, is_child, is_of, last_of, names, stop_of}
use Rattle.record_printer.specs.DeathLine.{death_text}
use Rattle.record_printer.specs.FolderAnswers.{first_row_fault, is_expected, lost, lost_at, lost_if, missing_of}
use Rattle.record_printer.specs.FolderAnswers.{or_next, pieces_text, row_text}
use Rattle.record_printer.specs.Note.{Note}
use Rattle.record_printer.specs.Piece.{Piece}
use Rattle.record_printer.specs.PrintedRow.{row_lines}
use Rattle.record_printer.specs.RowAnswers.{missing_in, text_in}
use Rattle.record_printer.specs.StopNote.{stop_note}
use Rattle.record_printer.specs.declared.call.show.Show.{Show}
use Rattle.record_printer.specs.declared.fold.error.FoldError.{FoldError}
use Rattle.tracer_workers.specs.CaseText.{death_after, history_lines, history_text, published_contents, text_if}
use Rattle.tracer_workers.specs.HistoryPieces.{pieces_of, pieces_with}
use Rattle.tracer_workers.specs.Printing.{printed_lines}
use Rattle.tracer_workers.proofs.BornRows.{same_on_range}
use Rattle.tracer_workers.proofs.RowPieces.{agrees, ending_at, other_tid}

-- each row that was born has died
abbrev pub AreDead : List Row → List Entry → Type 0
AreDead rows h = (row : ℕ) → row < length rows → is_born rows (history_of h) row ≡ true
    → (death : Death) × (death_after h row ≡ Some death)

-- ---- a row of which nothing has come

none_of : (show : Show) (rows : List Row) → IsRoster rows → (h : List Entry) (e : Event) (content : Content)
    (pieces : List Piece) (row : ℕ) → row < length rows → subject e < length rows → subject e ≢ row
    → list_any (is_of (row_at rows row).tid) pieces ≡ false
    → list_any (is_of (row_at rows row).tid) (pieces_with show rows h e content pieces) ≡ false
none_of show rows roster h (event.Publish at number stop) content pieces row within there other none =
    ap (λ b. b || list_any (is_of (row_at rows row).tid) pieces) (other_tid rows roster at row there within other) ∙ none
none_of show rows roster h (event.Exit at death) content pieces row within there other none =
    ap (λ b. b || list_any (is_of (row_at rows row).tid) pieces) (other_tid rows roster at row there within other) ∙ none
none_of show rows roster h (event.Claim at number tracer) content pieces row within there other none = none
none_of show rows roster h (event.Resume at number how tracer) content pieces row within there other none = none

no_pieces : (show : Show) (rows : List Row) → IsRoster rows → (h : List Entry) → AreLegal rows h → (row : ℕ)
    → row < length rows
    → events_of row (history_of h) ≡ [] → list_any (is_of (row_at rows row).tid) (pieces_of show rows h) ≡ false
no_pieces show rows roster [] legal row within silent = refl
no_pieces show rows roster (x ∷ h) legal row within silent =
    elim (cases_eq (subject x.event) row) [
      | inl same ↦
          (let clash : x.event ∷ events_of row (history_of h) ≡ [] =
          sym (own_events row x.event (history_of h) same) ∙ silent in cc)
      | inr other ↦
          none_of show rows roster h x.event x.content (pieces_of show rows h) row within
          (fits_within rows (history_of h) x.event legal.0.0) other
          (no_pieces show rows roster h legal.1 row within
          (sym (other_events row x.event (history_of h) other) ∙ silent))
    ]

pub silent_death : (h : List Entry) (row : ℕ) → events_of row (history_of h) ≡ [] → death_after h row ≡ None
silent_death [] row silent = refl
silent_death (x ∷ h) row silent =
    elim (cases_eq (subject x.event) row) [
      | inl same ↦
          (let clash : x.event ∷ events_of row (history_of h) ≡ [] =
          sym (own_events row x.event (history_of h) same) ∙ silent in cc)
      | inr other ↦
          rw (ne_eqb (subject x.event) row other)
          (silent_death h row (sym (other_events row x.event (history_of h) other) ∙ silent))
    ]

-- ---- a row that a stop names

-- a note names the child that its stop creates
pub noted_child : (show : Show) (content : Content) (at : Stop) → content.stop ≡ at
    → (tid : ℕ) → is_child tid (child_noted (stop_note show content)) ≡ creates tid (child_of at)
noted_child show content stop.Start is tid = rw is refl
noted_child show content stop.Enter is tid = rw is refl
noted_child show content stop.Exit is tid = rw is refl
noted_child show content (stop.Seccomp ret_data) is tid = rw is refl
noted_child show content (stop.Fork child) is tid = rw is refl
noted_child show content (stop.Clone child) is tid = rw is refl
noted_child show content (stop.Exec former) is tid = rw is refl
noted_child show content (stop.Signal signal) is tid = rw is refl
noted_child show content (stop.Ending death) is tid = rw is refl

parent_is : (rows : List Row) → IsRoster rows → (at row : ℕ) → at < length rows
    → ((row_at rows row).parent == (row_at rows at).tid) ≡ true → parent_of rows row ≡ Some at
parent_is rows roster at row there same =
    let tid = eqb-true (row_at rows row).parent (row_at rows at).tid same in
    let range = tid_in_range rows roster at there in
    ap (λ b. cond b None (row_of rows (row_at rows row).parent))
    (ne_eqb (row_at rows row).parent 0 (λ none. absurd (omega (arith, none, tid, range))))
    ∙ ap (row_of rows) tid ∙ row_of-tid rows roster at there

-- who names a row is its parent
named_by_parent : (rows : List Row) → IsRoster rows → (at births row : ℕ) → at < length rows → row < length rows
    → (child : Option ℕ) → names_next rows at births child ≡ true → creates (row_at rows row).tid child ≡ true
    → parent_of rows row ≡ Some at
named_by_parent rows roster at births row there within None next named = cc
named_by_parent rows roster at births row there within (Some child) next named =
    let own : row_of rows child ≡ Some row =
    ap (row_of rows) (eqb-true child (row_at rows row).tid named) ∙ row_of-tid rows roster row within in
    let found : is_next_child rows at births (Some row) ≡ true =
    ap (is_next_child rows at births) (sym own) ∙ next in
    parent_is rows roster at row there (and_parts _ _ found).0

born_now : (rows : List Row) (h : List Entry) (at number row : ℕ) (made : Stop) → parent_of rows row ≡ Some at
    → creates (row_at rows row).tid (child_of made) ≡ true
    → is_born rows (event.Publish at number made ∷ history_of h) row ≡ true
born_now rows h at number row made of_parent named =
    ap (λ o. was_created o (row_at rows row).tid (event.Publish at number made ∷ history_of h)) of_parent
    ∙ ap (λ b. (b && creates (row_at rows row).tid (child_of made))
    || list_any (is_birth at (row_at rows row).tid) (history_of h)) (eq-eqb at at refl)
    ∙ ap (λ b. b || list_any (is_birth at (row_at rows row).tid) (history_of h)) named

born_before : (rows : List Row) (h : List Entry) (e : Event) (row : ℕ) → is_born rows (history_of h) row ≡ true
    → is_born rows (e ∷ history_of h) row ≡ true
born_before rows h e row born = born_stays rows (e ∷ []) (history_of h) row born

named_with : (show : Show) (rows : List Row) → IsRoster rows → (h : List Entry) (e : Event) (content : Content)
    (pieces : List Piece) (row : ℕ) → row < length rows → Fits rows (history_of h) e
    → IsCarried rows (content_after rows h (subject e)) e content
    → (list_any (names (row_at rows row).tid) pieces ≡ true → is_born rows (history_of h) row ≡ true)
    → list_any (names (row_at rows row).tid) (pieces_with show rows h e content pieces) ≡ true
    → is_born rows (e ∷ history_of h) row ≡ true
named_with show rows roster h (event.Publish at number made) content pieces row within fits carried before named =
    let tid = (row_at rows row).tid in
    let child = noted_child show content made carried.2 tid in
    elim (cases_Bool (creates tid (child_of made))) [
      | inl now ↦
          born_now rows h at number row made
          (named_by_parent rows roster at _ row (fits_within rows (history_of h) (event.Publish at number made) fits) within
          (child_of made) fits.3 now) now
      | inr later ↦
          born_before rows h (event.Publish at number made) row
          (before (sym (ap (λ b. b || list_any (names tid) pieces) (child ∙ later)) ∙ named))
    ]
named_with show rows roster h (event.Exit at death) content pieces row within fits carried before named =
    born_before rows h (event.Exit at death) row (before named)
named_with show rows roster h (event.Claim at number tracer) content pieces row within fits carried before named =
    born_before rows h (event.Claim at number tracer) row (before named)
named_with show rows roster h (event.Resume at number how tracer) content pieces row within fits carried before named =
    born_before rows h (event.Resume at number how tracer) row (before named)

named_born : (show : Show) (rows : List Row) → IsRoster rows → (h : List Entry) → AreLegal rows h → (row : ℕ)
    → row < length rows
    → list_any (names (row_at rows row).tid) (pieces_of show rows h) ≡ true → is_born rows (history_of h) row ≡ true
named_born show rows roster [] legal row within named = cc
named_born show rows roster (x ∷ h) legal row within named =
    named_with show rows roster h x.event x.content (pieces_of show rows h) row within legal.0.0 legal.0.2
    (named_born show rows roster h legal.1 row within) named

-- ---- which rows must be whole

root_born : (rows : List Row) (h : List Entry) (row : ℕ) → is_root (row_at rows row) ≡ true
    → is_born rows (history_of h) row ≡ true
root_born rows h row root =
    ap (λ b. was_created (cond b None (row_of rows (row_at rows row).parent)) (row_at rows row).tid (history_of h)) root

false_unless : (b c : Bool) → (b ≡ true → c ≡ true) → c ≡ false → b ≡ false
false_unless true c holds is = let clash : true ≡ false = sym (holds refl) ∙ is in cc
false_unless false c holds is = refl

three_false : (a b c : Bool) → a ≡ false → b ≡ false → c ≡ false → (a || (b || c)) ≡ false
three_false false false false p q r = refl
three_false true b c p q r = cc
three_false false true c p q r = cc
three_false false false true p q r = cc

pub unborn_unexpected : (show : Show) (rows : List Row) → IsRoster rows → (h : List Entry) → AreLegal rows h → (row : ℕ)
    → row < length rows → is_born rows (history_of h) row ≡ false
    → is_expected (row_at rows row) (pieces_of show rows h) ≡ false
unborn_unexpected show rows roster h legal row within unborn =
    let born = is_born rows (history_of h) row in
    three_false _ _ _ (false_unless _ born (root_born rows h row) unborn)
    (false_unless _ born (named_born show rows roster h legal row within) unborn)
    (no_pieces show rows roster h legal row within
    (unborn_is_silent rows (history_of h) (legal_history rows h legal) row unborn))

-- ---- nothing is missing

found_none : (test : ℕ → Bool) (first count : ℕ) → ((n : ℕ) → first ≤ n → n < first + count → test n ≡ false)
    → find test (range_with_len first count) ≡ None
found_none test first zero none = refl
found_none test first (suc count) none =
    rw (none first (omega arith) (omega arith))
    (found_none test (first + 1) count (λ n low high. none n (omega (arith, low)) (omega (arith, high))))

whole_row : (show : Show) (rows : List Row) → IsRoster rows → (h : List Entry) → AreLegal rows h → (row : ℕ)
    → row < length rows → (death : Death) → death_after h row ≡ Some death
    → missing_of (row_at rows row).tid (pieces_of show rows h) ≡ None
whole_row show rows roster h legal row within death died =
    let tid = (row_at rows row).tid in
    let pieces = pieces_of show rows h in
    let number = number_in (events_of row (history_of h)) in
    let a = agrees show rows roster h legal row within in
    ap (λ o. missing_in (stop_of tid pieces) o (last_of tid pieces)) (a.ending ∙ ap (ending_at number) died)
    ∙ found_none (λ n. not (is_some (stop_of tid pieces n))) 1 number
    (λ n low high. ap not (a.there n low (omega (arith, high))))

first_none : (fault : ℕ → Option FoldError) (most first count : ℕ) → first + count ≤ most
    → ((row : ℕ) → row < most → fault row ≡ None) → first_row_fault fault (range_with_len first count) ≡ None
first_none fault most first zero within none = refl
first_none fault most first (suc count) within none =
    ap (λ o. or_next o (first_row_fault fault (range_with_len (first + 1) count))) (none first (omega arith))
    ∙ first_none fault most (first + 1) count (omega arith) none

nothing_lost : (expected : Bool) (row : ℕ) → lost_if expected row None ≡ None
nothing_lost true row = refl
nothing_lost false row = refl

lost_by : (show : Show) (rows : List Row) → IsRoster rows → (h : List Entry) → AreLegal rows h → AreDead rows h
    → (row : ℕ) → row < length rows → (born : Bool) → is_born rows (history_of h) row ≡ born
    → lost_at rows (pieces_of show rows h) row ≡ None
lost_by show rows roster h legal dead row within false unborn =
    ap (λ b. lost_if b row (missing_of (row_at rows row).tid (pieces_of show rows h)))
    (unborn_unexpected show rows roster h legal row within unborn)
lost_by show rows roster h legal dead row within true born =
    let died = dead row within born in
    ap (lost_if (is_expected (row_at rows row) (pieces_of show rows h)) row)
    (whole_row show rows roster h legal row within died.0 died.1)
    ∙ nothing_lost (is_expected (row_at rows row) (pieces_of show rows h)) row

pub nothing_is_lost : (show : Show) (rows : List Row) → IsRoster rows → (h : List Entry) → AreLegal rows h
    → AreDead rows h → lost rows (pieces_of show rows h) ≡ None
nothing_is_lost show rows roster h legal dead =
    first_none (lost_at rows (pieces_of show rows h)) (length rows) 0 (length rows) (omega arith)
    (λ row within. lost_by show rows roster h legal dead row within (is_born rows (history_of h) row) refl)

-- ---- the text

-- rows by their places
by_places : (f : Row → List ℕ) (before rows : List Row)
    → flat_map f rows ≡ flat_map (λ i. f (row_at (before ++ rows) i)) (range_with_len (length before) (length rows))
by_places f before [] = refl
by_places f before (row ∷ rows) =
    let all : (before ++ row ∷ []) ++ rows ≡ before ++ row ∷ rows = append_assoc before (row ∷ []) rows in
    let long : length (before ++ row ∷ []) ≡ length before + 1 = length-append before (row ∷ []) in
    ap (λ (xs : List ℕ). xs ++ flat_map f rows) (ap f (sym (get_or-append_seam before row rows nobody)))
    ∙ ap (λ (xs : List ℕ). f (row_at (before ++ row ∷ rows) (length before)) ++ xs)
    (by_places f (before ++ row ∷ []) rows
    ∙ ap (λ k. flat_map (λ i. f (row_at ((before ++ row ∷ []) ++ rows) i)) (range_with_len k (length rows))) long
    ∙ ap (λ (xs : List Row). flat_map (λ i. f (row_at xs i)) (range_with_len (length before + 1) (length rows))) all)

text_by : (show : Show) (rows : List Row) → IsRoster rows → (h : List Entry) → AreLegal rows h → AreDead rows h
    → (row : ℕ) → row < length rows → (born : Bool) → is_born rows (history_of h) row ≡ born
    → row_text (pieces_of show rows h) (row_at rows row)
    ≡ text_if born (printed_lines show (row_at rows row).tid (published_contents h row) (death_after h row))
text_by show rows roster h legal dead row within false unborn =
    let tid = (row_at rows row).tid in
    let silent = unborn_is_silent rows (history_of h) (legal_history rows h legal) row unborn in
    let a = agrees show rows roster h legal row within in
    ap (text_in tid (stop_of tid (pieces_of show rows h)))
    (a.ending ∙ ap (ending_at (number_in (events_of row (history_of h)))) (silent_death h row silent))
text_by show rows roster h legal dead row within true born =
    let tid = (row_at rows row).tid in
    let number = number_in (events_of row (history_of h)) in
    let a = agrees show rows roster h legal row within in
    let died = dead row within born in
    ap (text_in tid (stop_of tid (pieces_of show rows h))) (a.ending ∙ ap (ending_at number) died.1)
    ∙ ap (λ (notes : List Note). row_lines notes (Some (death_text tid died.0))) a.order
    ∙ ap (printed_lines show tid (published_contents h row)) (sym died.1)

pub text_of_pieces : (show : Show) (rows : List Row) → IsRoster rows → (h : List Entry) → AreLegal rows h
    → AreDead rows h → pieces_text rows (pieces_of show rows h) ≡ history_text (printed_lines show) rows h
text_of_pieces show rows roster h legal dead =
    by_places (row_text (pieces_of show rows h)) [] rows
    ∙ same_on_range (λ i. row_text (pieces_of show rows h) (row_at rows i)) (history_lines (printed_lines show) rows h)
    (length rows) 0 (length rows) (omega arith)
    (λ row within. text_by show rows roster h legal dead row within (is_born rows (history_of h) row) refl)
