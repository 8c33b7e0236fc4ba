-- Pieces in any order: where each is that of a stop or a death of a run, and none is missing, their text is the same as
-- that of the run's own pieces.
use Rattle.std.proofs.Common.{refl, ◌≡◌, ◌<◌, ◌≤◌, ◌+◌, ◌==◌, ◌&&◌, ◌||◌, ◌∷◌, ◌++◌, [], ℕ, zero, suc, Bool, true, false}
use Rattle.std.proofs.Common.{not, List, Option, Some, None, is_some, length, ◌∙◌, sym, ap, inl, inr, arith, cond}
use Rattle.std.proofs.Common.{eq-eqb, eqb-true, subst, find, reverse}
use Rattle.std.specs.List.{Contains, flat_map, list_any, range_with_len}
use Rattle.std.proofs.lemmas.Bool.{and_parts, cases_Bool, cases_eq, cases_order}
use Rattle.std.proofs.lemmas.List.Elements.{All-contains, Contains-append_right, at_from_Contains}
use Rattle.std.proofs.lemmas.List.Sorted.{Contains-permutation, IsPermutation-reverse, IsPermutation-sym}
use Rattle.std.proofs.lemmas.List.Folds.{list_any_at}
use Rattle.trace_record.specs.Content.{Content}
use Rattle.trace_record.specs.Stop.{child_of}
use Rattle.trace_record.specs.declared.death.Death.{Death}
use Rattle.stop_history.specs.declared.roster.Row.{Row}
use Rattle.stop_history.specs.Event as event
use Rattle.stop_history.specs.Event.{Event, events_of, subject}
use Rattle.stop_history.specs.History.{Fits}
use Rattle.stop_history.specs.Roster.{IsRoster, is_root, nobody, parent_of, row_at}
use Rattle.stop_history.specs.State.{creates, is_birth, is_born, last_number, number_in, was_created}
use Rattle.stop_history.proofs.Longer.{unborn_is_silent}
use Rattle.stop_history.proofs.Rosters.{placed}
use Rattle.stop_history.proofs.States.{fits_within}
use Rattle.stop_table.specs.Entry.{AreLegal, Entry, GoesOn, IsCarried, content_after, history_of}
use Rattle.stop_table.specs.View.{View, actors_of}
use Rattle.stop_table.proofs.Entries.{legal_history}
use Rattle.record_printer.specs.Came.{child_noted, ending_of, is_child, is_of, last_of, names, stop_of}
use Rattle.record_printer.specs.DeathLine.{death_text}
use Rattle.record_printer.specs.FolderAnswers.{first_row_fault, is_expected, lost, lost_at, lost_if, missing_of}
use Rattle.record_printer.specs.FolderAnswers.{or_next, pieces_text, row_text}
use Rattle.record_printer.specs.Note.{Note}
use Rattle.record_printer.specs.Piece.{Piece, Stopped, Died}
use Rattle.record_printer.specs.PrintedRow.{row_lines}
use Rattle.record_printer.specs.Represents.{AreTaken}
use Rattle.record_printer.specs.RowAnswers.{missing_in, text_in}
use Rattle.record_printer.specs.StopNote.{stop_note}
use Rattle.record_printer.specs.declared.call.show.Show.{Show}
use Rattle.record_printer.specs.declared.fold.ending.Ending.{Ending}
use Rattle.record_printer.specs.declared.fold.error.FoldError.{FoldError}
use Rattle.record_printer.proofs.Arrival.{ending_came, ending_one, last_least, stop_came, stop_one}
use Rattle.record_printer.proofs.Stops.{notes_same}
use Rattle.tracer_workers.specs.CaseText.{bears, death_after, history_text}
use Rattle.tracer_workers.specs.Driven.{AreReaped}
use Rattle.tracer_workers.specs.Gathering.{AreSeen, GoesOnFrom}
use Rattle.tracer_workers.specs.HistoryPieces.{pieces_of, pieces_with}
use Rattle.tracer_workers.specs.Printing.{printed_lines}
use Rattle.tracer_workers.proofs.BornRows.{births_named, silent_published}
use Rattle.tracer_workers.proofs.Reaped.{reaped_dead}
use Rattle.tracer_workers.proofs.RowPieces.{agrees, ending_at}
use Rattle.tracer_workers.proofs.Taken.{death_taken, stop_taken}
use Rattle.tracer_workers.proofs.WholePieces.{noted_child, silent_death, text_of_pieces}

-- ---- the pieces of a run are taken one by one

taken_with : (show : Show) (rows : List Row) → IsRoster rows → (h : List Entry) → AreLegal rows h → (e : Event)
    (content : Content) → Fits rows (history_of h) e → AreTaken rows (pieces_of show rows h)
    → AreTaken rows (pieces_with show rows h e content (pieces_of show rows h))
taken_with show rows roster h legal (event.Publish row number stop) content fits before = (
  stop_taken show rows roster h legal row (fits_within rows (history_of h) (event.Publish row number stop) fits) fits.0
      number (stop_note show content) fits.1,
  before,
)
taken_with show rows roster h legal (event.Exit row death) content fits before = (
  death_taken show rows roster h legal row (fits_within rows (history_of h) (event.Exit row death) fits) fits.0
      (last_number (history_of h) row) death refl,
  before,
)
taken_with show rows roster h legal (event.Claim row number tracer) content fits before = before
taken_with show rows roster h legal (event.Resume row number how tracer) content fits before = before

pub are_taken : (show : Show) (rows : List Row) → IsRoster rows → (h : List Entry) → AreLegal rows h
    → AreTaken rows (pieces_of show rows h)
are_taken show rows roster [] legal = tt
are_taken show rows roster (x ∷ h) legal =
    taken_with show rows roster h legal.1 x.event x.content legal.0.0 (are_taken show rows roster h legal.1)

-- ---- a row of which nothing is missing

none_by : (b : Bool) (first : ℕ) (o : Option ℕ) → cond b (Some first) o ≡ None → (b ≡ false) × (o ≡ None)
none_by true first o none = cc
none_by false first o none = (refl, none)

none_found : (test : ℕ → Bool) (first count : ℕ) → find test (range_with_len first count) ≡ None
    → (n : ℕ) → first ≤ n → n < first + count → test n ≡ false
none_found test first zero none n low high = absurd (omega (arith, low, high))
none_found test first (suc count) none n low high =
    let both = none_by (test first) first (find test (range_with_len (first + 1) count)) none in
    elim (cases_eq n first) [
      | inl same ↦ ap test same ∙ both.0
      | inr other ↦ none_found test (first + 1) count both.1 n (omega (arith, low, other)) (omega (arith, high))
    ]

some_is : {X : Type 0} (o : Option X) → is_some o ≡ true → (x : X) × (o ≡ Some x)
some_is None is = cc
some_is (Some x) is = (x, refl)

not_false : (b : Bool) → not b ≡ false → b ≡ true
not_false true is = refl
not_false false is = cc

-- its death has come, and its stops up to that
record IsComplete (tid : ℕ) (came : List Piece) : Type 0 where
  ending : Ending
  died : ending_of tid came ≡ Some ending
  there : (n : ℕ) → 1 ≤ n → n ≤ ending.number → is_some (stop_of tid came n) ≡ true

complete_by : (tid : ℕ) (came : List Piece) (ending : Option Ending) → ending_of tid came ≡ ending
    → missing_in (stop_of tid came) ending (last_of tid came) ≡ None → IsComplete tid came
complete_by tid came None is none =
    let above = last_of tid came + 1 in
    let held = not_false _ (none_found (λ n. not (is_some (stop_of tid came n))) 1 above none above (omega arith) (omega arith)) in
    let stop = some_is (stop_of tid came above) held in
    absurd (omega (arith, last_least tid came above stop.0 (stop_came tid came above stop.0 stop.1)))
complete_by tid came (Some ending) is none = record {
  ending = ending;
  died = is;
  there = λ n low high. not_false _ (none_found (λ k. not (is_some (stop_of tid came k))) 1 ending.number none n low (omega (arith, high)));
}

-- ---- what is expected and not lost

or_none : (fault later : Option FoldError) → or_next fault later ≡ None → (fault ≡ None) × (later ≡ None)
or_none None later none = (refl, none)
or_none (Some found) later none = cc

all_none : (fault : ℕ → Option FoldError) (first count : ℕ) → first_row_fault fault (range_with_len first count) ≡ None
    → (row : ℕ) → first ≤ row → row < first + count → fault row ≡ None
all_none fault first zero none row low high = absurd (omega (arith, low, high))
all_none fault first (suc count) none row low high =
    let both = or_none (fault first) (first_row_fault fault (range_with_len (first + 1) count)) none in
    elim (cases_eq row first) [
      | inl same ↦ ap fault same ∙ both.0
      | inr other ↦ all_none fault (first + 1) count both.1 row (omega (arith, low, other)) (omega (arith, high))
    ]

not_lost : (expected : Bool) (row : ℕ) (number : Option ℕ) → expected ≡ true → lost_if expected row number ≡ None
    → number ≡ None
not_lost true row None is none = refl
not_lost true row (Some number) is none = cc
not_lost false row number is none = cc

-- ---- the creation of a child among the pieces

record IsCreated (pieces : List Piece) (parent tid : ℕ) : Type 0 where
  number : ℕ
  note : Note
  low : 1 ≤ number
  there : Contains pieces (Stopped parent number note)
  named : is_child tid (child_noted note) ≡ true

created_before : (piece : Piece) (pieces : List Piece) (parent tid : ℕ) → IsCreated pieces parent tid
    → IsCreated (piece ∷ pieces) parent tid
created_before piece pieces parent tid c = record {
  number = c.number;
  note = c.note;
  low = c.low;
  there = Contains-append_right (piece ∷ []) pieces (Stopped parent c.number c.note) c.there;
  named = c.named;
}

created_with : (show : Show) (rows : List Row) (h : List Entry) (e : Event) (content : Content) (pieces : List Piece)
    (parent tid : ℕ) → Fits rows (history_of h) e → IsCarried rows (content_after rows h (subject e)) e content
    → (list_any (is_birth parent tid) (history_of h) ≡ true → IsCreated pieces (row_at rows parent).tid tid)
    → (is_birth parent tid e || list_any (is_birth parent tid) (history_of h)) ≡ true
    → IsCreated (pieces_with show rows h e content pieces) (row_at rows parent).tid tid
created_with show rows h (event.Publish row number made) content pieces parent tid fits carried before is =
    let note = stop_note show content in
    elim (cases_Bool (row == parent && creates tid (child_of made))) [
      | inl now ↦
          (let both = and_parts (row == parent) (creates tid (child_of made)) now in
          let same : row ≡ parent = eqb-true row parent both.0 in
          record {
            number = number;
            note = note;
            low = omega (arith, fits.1);
            there = (0, omega arith, ap (λ r. Stopped (row_at rows r).tid number note) same);
            named = noted_child show content made carried.2 tid ∙ both.1;
          })
      | inr later ↦
          created_before (Stopped (row_at rows row).tid number note) pieces (row_at rows parent).tid tid
          (before (sym (ap (λ b. b || list_any (is_birth parent tid) (history_of h)) later) ∙ is))
    ]
created_with show rows h (event.Exit row death) content pieces parent tid fits carried before is =
    created_before (Died (row_at rows row).tid (last_number (history_of h) row) death) pieces (row_at rows parent).tid tid
    (before is)
created_with show rows h (event.Claim row number tracer) content pieces parent tid fits carried before is = before is
created_with show rows h (event.Resume row number how tracer) content pieces parent tid fits carried before is = before is

created : (show : Show) (rows : List Row) (h : List Entry) → AreLegal rows h → (parent tid : ℕ)
    → list_any (is_birth parent tid) (history_of h) ≡ true
    → IsCreated (pieces_of show rows h) (row_at rows parent).tid tid
created show rows [] legal parent tid is = cc
created show rows (x ∷ h) legal parent tid is =
    created_with show rows h x.event x.content (pieces_of show rows h) parent tid legal.0.0 legal.0.2
    (created show rows h legal.1 parent tid) is

-- who creates a child is born
creator_born : (rows : List Row) (h : List Entry) → AreLegal rows h → (parent tid : ℕ)
    → list_any (is_birth parent tid) (history_of h) ≡ true → is_born rows (history_of h) parent ≡ true
creator_born rows h legal parent tid is =
    elim (cases_Bool (is_born rows (history_of h) parent)) [
      | inl born ↦ born
      | inr unborn ↦
          (let silent = unborn_is_silent rows (history_of h) (legal_history rows h legal) parent unborn in
          let clash : true ≡ false =
          sym is ∙ births_named rows h legal parent tid ∙ ap (bears tid) (silent_published h parent silent) in cc)
    ]

later_with : (show : Show) (rows : List Row) (h : List Entry) (e : Event) (content : Content) (pieces : List Piece)
    (piece : Piece) → Contains pieces piece → Contains (pieces_with show rows h e content pieces) piece
later_with show rows h (event.Publish row number stop) content pieces piece there =
    Contains-append_right (Stopped (row_at rows row).tid number (stop_note show content) ∷ []) pieces piece there
later_with show rows h (event.Exit row death) content pieces piece there =
    Contains-append_right (Died (row_at rows row).tid (last_number (history_of h) row) death ∷ []) pieces piece there
later_with show rows h (event.Claim row number tracer) content pieces piece there = there
later_with show rows h (event.Resume row number how tracer) content pieces piece there = there

-- ---- the text of what came

or_middle : (a b c : Bool) → b ≡ true → (a || (b || c)) ≡ true
or_middle true b c is = refl
or_middle false true c is = refl
or_middle false false c is = cc

none_or_clash : {X : Type 0} (o : Option X) → ((x : X) → o ≡ Some x → ⊥) → o ≡ None
none_or_clash None clash = refl
none_or_clash (Some x) clash = absurd (clash x refl)

ending_number : (number : ℕ) (death : Option Death) (ending : Ending) → ending_at number death ≡ Some ending
    → number ≡ ending.number
ending_number number None ending is = cc
ending_number number (Some death) ending is =
    let same : record { number = number; death = death } ≡ ending = cc in ap (λ (e : Ending). e.number) same

same_flat : (f g : Row → List ℕ) (rows : List Row) → ((row : Row) → Contains rows row → f row ≡ g row)
    → flat_map f rows ≡ flat_map g rows
same_flat f g [] same = refl
same_flat f g (row ∷ rows) same =
    ap (λ (xs : List ℕ). xs ++ flat_map f rows) (same row (0, omega arith, refl))
    ∙ ap (λ (xs : List ℕ). g row ++ xs)
    (same_flat f g rows (λ other there. same other (Contains-append_right (row ∷ []) rows other there)))

named_there : (came : List Piece) (tid parent number : ℕ) (note other : Note) → note ≡ other
    → is_child tid (child_noted other) ≡ true
    → Contains came (Stopped parent number note) → list_any (names tid) came ≡ true
named_there came tid parent number note other same named there =
    list_any_at (names tid) came there.0 (Stopped parent number note) there.1
    (ap (names tid) there.2 ∙ ap (λ n. is_child tid (child_noted n)) same ∙ named)

module _ (show : Show) (rows : List Row) (roster : IsRoster rows) (h : List Entry) (legal : AreLegal rows h)
    (came : List Piece) (each : (piece : Piece) → Contains came piece → Contains (pieces_of show rows h) piece)
    (none : lost rows came ≡ None) where
  found_stop : (tid number : ℕ) (note : Note) → stop_of tid came number ≡ Some note
      → stop_of tid (pieces_of show rows h) number ≡ Some note
  found_stop tid number note found =
      stop_one rows tid (pieces_of show rows h) number note (are_taken show rows roster h legal)
      (each (Stopped tid number note) (stop_came tid came number note found))

  found_ending : (tid : ℕ) (ending : Ending) → ending_of tid came ≡ Some ending
      → ending_of tid (pieces_of show rows h) ≡ Some ending
  found_ending tid ending found =
      ending_one rows tid (pieces_of show rows h) ending.number ending.death (are_taken show rows roster h legal)
      (each (Died tid ending.number ending.death) (ending_came tid came ending found))

  complete : (row : ℕ) → row < length rows → is_expected (row_at rows row) came ≡ true
      → IsComplete (row_at rows row).tid came
  complete row within expected =
      let tid = (row_at rows row).tid in
      complete_by tid came (ending_of tid came) refl
      (not_lost (is_expected (row_at rows row) came) row (missing_of tid came) expected
      (all_none (lost_at rows came) 0 (length rows) none row (omega arith) (omega (arith, within))))

  same_note : (tid : ℕ) → (c : IsComplete tid came) → (n : ℕ) → 1 ≤ n → n ≤ c.ending.number
      → stop_of tid came n ≡ stop_of tid (pieces_of show rows h) n
  same_note tid c n low high =
      let stop = some_is (stop_of tid came n) (c.there n low high) in
      stop.1 ∙ sym (found_stop tid n stop.0 stop.1)

  -- the creation of a child has come where the parent's pieces have
  named_child : (parent tid : ℕ) → parent < length rows → IsComplete (row_at rows parent).tid came
      → IsCreated (pieces_of show rows h) (row_at rows parent).tid tid → list_any (names tid) came ≡ true
  named_child parent tid within whole c =
      let ptid = (row_at rows parent).tid in
      let here = stop_one rows ptid (pieces_of show rows h) c.number c.note (are_taken show rows roster h legal) c.there in
      let a = agrees show rows roster h legal parent within in
      let count = ending_number (number_in (events_of parent (history_of h))) (death_after h parent) whole.ending
      (sym a.ending ∙ found_ending ptid whole.ending whole.died) in
      let high : c.number ≤ whole.ending.number =
      elim (cases_order (number_in (events_of parent (history_of h))) c.number) [
        | inl same ↦ omega (arith, same, count)
        | inr (inl less) ↦ (let clash : None ≡ Some c.note = sym (a.no_more c.number less) ∙ here in cc)
        | inr (inr more) ↦ omega (arith, more, count)
      ] in
      let stop = some_is (stop_of ptid came c.number) (whole.there c.number c.low high) in
      let note : Some stop.0 ≡ Some c.note = sym (found_stop ptid c.number stop.0 stop.1) ∙ here in
      let same : stop.0 ≡ c.note = cc in
      named_there came tid ptid c.number stop.0 c.note same c.named (stop_came ptid came c.number stop.0 stop.1)

  expected_by : (n row : ℕ) → row < suc n → row < length rows → is_born rows (history_of h) row ≡ true
      → ((r : ℕ) → r < n → r < length rows → is_born rows (history_of h) r ≡ true
      → is_expected (row_at rows r) came ≡ true)
      → (parent : Option ℕ) → parent_of rows row ≡ parent → is_expected (row_at rows row) came ≡ true
  expected_by n row less within born sooner None is =
      ap (λ b. b || (list_any (names (row_at rows row).tid) came || list_any (is_of (row_at rows row).tid) came))
      (eq-eqb (row_at rows row).parent 0 ((placed rows roster row within).root is).0)
  expected_by n row less within born sooner (Some parent) is =
      let tid = (row_at rows row).tid in
      let made : list_any (is_birth parent tid) (history_of h) ≡ true =
      sym (ap (λ o. was_created o tid (history_of h)) is) ∙ born in
      let earlier = ((placed rows roster row within).child parent is).0 in
      let there : parent < length rows = omega (arith, earlier, within) in
      let known = sooner parent (omega (arith, earlier, less)) there (creator_born rows h legal parent tid made) in
      or_middle (is_root (row_at rows row)) (list_any (names tid) came) (list_any (is_of tid) came)
      (named_child parent tid there (complete parent there known) (created show rows h legal parent tid made))

  expected : (n row : ℕ) → row < n → row < length rows → is_born rows (history_of h) row ≡ true
      → is_expected (row_at rows row) came ≡ true
  expected zero row less within born = absurd (omega (arith, less))
  expected (suc n) row less within born =
      expected_by n row less within born (expected n) (parent_of rows row) refl

  row_same : (row : ℕ) → row < length rows → (born : Bool) → is_born rows (history_of h) row ≡ born
      → row_text came (row_at rows row) ≡ row_text (pieces_of show rows h) (row_at rows row)
  row_same row within true born =
      let tid = (row_at rows row).tid in
      let c = complete row within (expected (suc row) row (omega arith) within born) in
      ap (text_in tid (stop_of tid came)) c.died
      ∙ ap (λ (notes : List Note). row_lines notes (Some (death_text tid c.ending.death)))
      (notes_same (stop_of tid came) (stop_of tid (pieces_of show rows h)) 1 c.ending.number
      (λ n low high. same_note tid c n low (omega (arith, high))))
      ∙ ap (text_in tid (stop_of tid (pieces_of show rows h))) (sym (found_ending tid c.ending c.died))
  row_same row within false unborn =
      let tid = (row_at rows row).tid in
      let silent = unborn_is_silent rows (history_of h) (legal_history rows h legal) row unborn in
      let lives : ending_of tid (pieces_of show rows h) ≡ None =
      (agrees show rows roster h legal row within).ending
      ∙ ap (ending_at (number_in (events_of row (history_of h)))) (silent_death h row silent) in
      let came_none : ending_of tid came ≡ None =
      none_or_clash (ending_of tid came) (λ ending found.
      let clash : Some ending ≡ None = sym (found_ending tid ending found) ∙ lives in cc) in
      ap (text_in tid (stop_of tid came)) came_none
      ∙ ap (text_in tid (stop_of tid (pieces_of show rows h))) (sym lives)

  pub any_order : pieces_text rows came ≡ pieces_text rows (pieces_of show rows h)
  any_order =
      same_flat (row_text came) (row_text (pieces_of show rows h)) rows (λ row there.
      let at = at_from_Contains rows row there in
      subst (λ (r : Row). row_text came r ≡ row_text (pieces_of show rows h) r) (at.2 nobody)
      (row_same at.0 at.1 (is_born rows (history_of h) at.0) refl))

-- ---- pieces of what was seen before

-- what has been published or has ended stays so
pub pieces_later : (show : Show) (rows : List Row) (more h : List Entry) (piece : Piece)
    → Contains (pieces_of show rows h) piece → Contains (pieces_of show rows (more ++ h)) piece
pieces_later show rows [] h piece there = there
pieces_later show rows (x ∷ more) h piece there =
    later_with show rows (more ++ h) x.event x.content (pieces_of show rows (more ++ h)) piece
    (pieces_later show rows more h piece there)

-- pieces of what was seen are among those of a history that goes on from it, in whatever order they come
pub seen_there : (show : Show) (rows : List Row) (views : List View) (h : List Entry) (pieces : List Piece)
    → GoesOnFrom views h → AreSeen show rows views pieces
    → (piece : Piece) → Contains (reverse pieces) piece → Contains (pieces_of show rows h) piece
seen_there show rows views h pieces on seen piece there =
    let from = seen piece (Contains-permutation (reverse pieces) pieces piece
    (IsPermutation-sym pieces (reverse pieces) (IsPermutation-reverse pieces)) there) in
    let goes = All-contains (λ (v : View). GoesOn (actors_of v) v.seen h) views from.0 on from.1 in
    subst (λ later. Contains (pieces_of show rows later) piece) (sym goes.1)
    (pieces_later show rows goes.0 from.0.seen piece from.2)

-- the text of pieces, each of which is that of a stop or a death of a history in which each born row has been reaped
pub text_there : (show : Show) (rows : List Row) → IsRoster rows → (h : List Entry) → AreLegal rows h → AreReaped rows h
    → (came : List Piece) → ((piece : Piece) → Contains came piece → Contains (pieces_of show rows h) piece)
    → lost rows came ≡ None → pieces_text rows came ≡ history_text (printed_lines show) rows h
text_there show rows roster h legal reaped came each none =
    any_order show rows roster h legal came each none ∙ text_of_pieces show rows roster h legal (reaped_dead rows h reaped)
