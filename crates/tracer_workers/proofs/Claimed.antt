-- The claims of a run: what was published or has ended is claimed by one tracer, or waits to be claimed. Where each born
-- row has been reaped nothing waits, so the pieces of all claims are whole.
use Rattle.std.proofs.Common.{refl, ◌≡◌, ◌≢◌, ◌<◌, ◌≤◌, ◌+◌, ◌∷◌, ◌++◌, [], ℕ, zero, suc, Bool, true, false, List}
use Rattle.std.proofs.Common.{length, reverse, ◌∙◌, sym, ap, subst, arith, inl, inr, eq-eqb, ne_eqb, append_assoc}
use Rattle.std.proofs.Common.{append-nil}
use Rattle.std.specs.List.{flat_map, range_with_len}
use Rattle.std.specs.List.Sorted.{IsPermutation}
use Rattle.std.proofs.lemmas.Bool.{cases_Bool, cases_eq}
use Rattle.std.proofs.lemmas.List.Sorted.{IsPermutation-append_left, IsPermutation-append_right, IsPermutation-cons}
use Rattle.std.proofs.lemmas.List.Sorted.{IsPermutation-middle, IsPermutation-refl, IsPermutation-reverse}
use Rattle.std.proofs.lemmas.List.Sorted.{IsPermutation-sym, IsPermutation-trans}
use Rattle.trace_record.specs.Content.{Content}
use Rattle.stop_history.specs.declared.limits.TheConstants.{TRACERS}
use Rattle.stop_history.specs.declared.roster.Row.{Row}
use Rattle.stop_history.specs.declared.state.State.TheVariants as state
use Rattle.stop_history.specs.Event as event
use Rattle.stop_history.specs.Event.{Event, events_of, subject}
use Rattle.stop_history.specs.History.{Fits}
use Rattle.stop_history.specs.Ranges.{IsInRange}
use Rattle.stop_history.specs.Roster.{IsRoster, row_at}
use Rattle.stop_history.specs.State.{is_born, is_waitable, number_in, state_after, state_in}
use Rattle.stop_history.proofs.Longer.{unborn_is_silent}
use Rattle.stop_history.proofs.States.{claim_is_none, fits_within, state_within}
use Rattle.stop_table.specs.Entry.{AreLegal, Entry, IsCarried, content_after, history_of}
use Rattle.stop_table.proofs.Entries.{legal_history}
use Rattle.record_printer.specs.Piece.{Died, Piece, Stopped}
use Rattle.record_printer.specs.StopNote.{stop_note}
use Rattle.record_printer.specs.declared.call.show.Show.{Show}
use Rattle.record_printer.proofs.Arrival.{same_lost}
use Rattle.tracer_workers.specs.Driven.{AreReaped}
use Rattle.tracer_workers.specs.Gathering.{AreWhole}
use Rattle.tracer_workers.specs.HistoryPieces.{pieces_of, stop_piece}
use Rattle.tracer_workers.specs.WorkerThread.{claimed_piece, pieces_claimed}
use Rattle.tracer_workers.proofs.AnyOrder.{are_taken}
use Rattle.tracer_workers.proofs.Left.{Left, left_of, other_left, own_left}
use Rattle.tracer_workers.proofs.Reaped.{reaped_dead}
use Rattle.tracer_workers.proofs.Rearranged.{taken_moved}
use Rattle.tracer_workers.proofs.WholePieces.{nothing_is_lost}

-- ---- lists that are joined by their places

pub same_lists : (f g : ℕ → List Piece) (first count : ℕ)
    → ((k : ℕ) → first ≤ k → k < first + count → f k ≡ g k)
    → flat_map f (range_with_len first count) ≡ flat_map g (range_with_len first count)
same_lists f g first zero same = refl
same_lists f g first (suc count) same =
    ap (λ (xs : List Piece). xs ++ flat_map f (range_with_len (first + 1) count))
    (same first (omega arith) (omega arith))
    ∙ ap (λ (xs : List Piece). g first ++ xs)
    (same_lists f g (first + 1) count (λ k low high. same k (omega (arith, low)) (omega (arith, high))))

pub no_lists : (f : ℕ → List Piece) (first count : ℕ) → ((k : ℕ) → first ≤ k → k < first + count → f k ≡ [])
    → flat_map f (range_with_len first count) ≡ []
no_lists f first zero none = refl
no_lists f first (suc count) none =
    ap (λ (xs : List Piece). xs ++ flat_map f (range_with_len (first + 1) count))
    (none first (omega arith) (omega arith))
    ∙ no_lists f (first + 1) count (λ k low high. none k (omega (arith, low)) (omega (arith, high)))

-- one of them has one piece more
one_more : (f g : ℕ → List Piece) (at : ℕ) (piece : Piece) → g at ≡ f at ++ piece ∷ []
    → ((k : ℕ) → k ≢ at → g k ≡ f k) → (first count : ℕ) → first ≤ at → at < first + count
    → IsPermutation (flat_map g (range_with_len first count)) (piece ∷ flat_map f (range_with_len first count))
one_more f g at piece more others first zero low high = absurd (omega (arith, low, high))
one_more f g at piece more others first (suc count) low high =
    let rest = flat_map f (range_with_len (first + 1) count) in
    let new = flat_map g (range_with_len (first + 1) count) in
    elim (cases_eq first at) [
      | inl same ↦
          (let here : g first ≡ f first ++ piece ∷ [] = ap g same ∙ more ∙ ap (λ k. f k ++ piece ∷ []) (sym same) in
          let all : flat_map g (range_with_len first (suc count)) ≡ f first ++ piece ∷ rest =
          ap (λ (xs : List Piece). xs ++ new) here
          ∙ ap (λ (xs : List Piece). (f first ++ piece ∷ []) ++ xs)
          (same_lists g f (first + 1) count
          (λ k above below. others k (λ is. absurd (omega (arith, above, is, same)))))
          ∙ append_assoc (f first) (piece ∷ []) rest in
          subst (λ (xs : List Piece). IsPermutation xs (piece ∷ (f first ++ rest))) (sym all)
          (IsPermutation-middle (f first) piece rest))
      | inr other ↦
          (let after : IsPermutation new (piece ∷ rest) =
          one_more f g at piece more others (first + 1) count (omega (arith, low, other)) (omega (arith, high)) in
          let moved : IsPermutation (f first ++ new) (piece ∷ (f first ++ rest)) =
          IsPermutation-trans (f first ++ new) (f first ++ piece ∷ rest) (piece ∷ (f first ++ rest))
          (IsPermutation-append_right (f first) new (piece ∷ rest) after)
          (IsPermutation-middle (f first) piece rest) in
          subst (λ (xs : List Piece). IsPermutation (xs ++ new) (piece ∷ (f first ++ rest))) (sym (others first other))
          moved)
    ]

-- a piece that is made waits
join_made : (made claimed waiting later : List Piece) (piece : Piece) → IsPermutation made (claimed ++ waiting)
    → IsPermutation later (piece ∷ waiting) → IsPermutation (piece ∷ made) (claimed ++ later)
join_made made claimed waiting later piece before new =
    IsPermutation-trans (piece ∷ made) (piece ∷ (claimed ++ waiting)) (claimed ++ later)
    (IsPermutation-cons piece made (claimed ++ waiting) before)
    (IsPermutation-trans (piece ∷ (claimed ++ waiting)) (claimed ++ piece ∷ waiting) (claimed ++ later)
    (IsPermutation-sym (claimed ++ piece ∷ waiting) (piece ∷ (claimed ++ waiting))
    (IsPermutation-middle claimed piece waiting))
    (IsPermutation-append_right claimed (piece ∷ waiting) later (IsPermutation-sym later (piece ∷ waiting) new)))

-- a piece that waits is claimed
join_claimed : (made claimed more waiting later : List Piece) (piece : Piece) → IsPermutation made (claimed ++ waiting)
    → IsPermutation more (piece ∷ claimed) → IsPermutation waiting (piece ∷ later) → IsPermutation made (more ++ later)
join_claimed made claimed more waiting later piece before new taken =
    IsPermutation-trans made (claimed ++ waiting) (more ++ later) before
    (IsPermutation-trans (claimed ++ waiting) (claimed ++ piece ∷ later) (more ++ later)
    (IsPermutation-append_right claimed waiting (piece ∷ later) taken)
    (IsPermutation-trans (claimed ++ piece ∷ later) (piece ∷ (claimed ++ later)) (more ++ later)
    (IsPermutation-middle claimed piece later)
    (IsPermutation-append_left later (piece ∷ claimed) more (IsPermutation-sym more (piece ∷ claimed) new))))

-- ---- what waits in a row

abbrev waiting_piece : Show → (tid : ℕ) → Content → List Event → List Piece
waiting_piece show tid content [] = []
waiting_piece show tid content (event.Publish row number stop ∷ es) = stop_piece show content ∷ []
waiting_piece show tid content (event.Claim row number tracer ∷ es) = []
waiting_piece show tid content (event.Resume row number how tracer ∷ es) = []
waiting_piece show tid content (event.Exit row death ∷ es) = Died tid (number_in es) death ∷ []

abbrev waiting_of : Show → List Row → ℕ → Left → List Piece
waiting_of show rows row a = waiting_piece show (row_at rows row).tid a.content a.events

abbrev waiting : Show → List Row → List Entry → ℕ → List Piece
waiting show rows h row = waiting_of show rows row (left_of rows h row)

abbrev all_waiting : Show → List Row → List Entry → List Piece
all_waiting show rows h = flat_map (waiting show rows h) (range_with_len 0 (length rows))

abbrev pub all_claimed : Show → List Row → List Entry → List Piece
all_claimed show rows h = flat_map (λ tracer. pieces_claimed show rows tracer h) (range_with_len 0 TRACERS)

none_waits : (show : Show) (tid : ℕ) (content : Content) (born : Bool) (es : List Event)
    → is_waitable (state_in born es) ≡ false → waiting_piece show tid content es ≡ []
none_waits show tid content born [] idle = refl
none_waits show tid content born (event.Publish row number stop ∷ es) idle = cc
none_waits show tid content born (event.Claim row number tracer ∷ es) idle = refl
none_waits show tid content born (event.Resume row number how tracer ∷ es) idle = refl
none_waits show tid content born (event.Exit row death ∷ es) idle = cc

one_waits : (show : Show) (tid : ℕ) (content : Content) (born : Bool) (es : List Event)
    → is_waitable (state_in born es) ≡ true
    → waiting_piece show tid content es ≡ claimed_piece show tid content es ∷ []
one_waits show tid content true [] waits = cc
one_waits show tid content false [] waits = cc
one_waits show tid content born (event.Publish row number stop ∷ es) waits = refl
one_waits show tid content born (event.Claim row number tracer ∷ es) waits =
    let clash : false ≡ true = sym (claim_is_none (number_in es) tracer es) ∙ waits in cc
one_waits show tid content born (event.Resume row number how tracer ∷ es) waits = cc
one_waits show tid content born (event.Exit row death ∷ es) waits = refl

row_waits_not : (show : Show) (rows : List Row) (h : List Entry) (row : ℕ) → row < length rows
    → is_waitable (state_after rows (history_of h) row) ≡ false → waiting show rows h row ≡ []
row_waits_not show rows h row within idle =
    none_waits show (row_at rows row).tid (left_of rows h row).content (is_born rows (history_of h) row)
    (events_of row (history_of h)) (ap is_waitable (sym (state_within rows (history_of h) row within)) ∙ idle)

-- an entry of another row leaves it
waits_beside : (show : Show) (rows : List Row) (x : Entry) (h : List Entry) (row : ℕ) → row ≢ subject x.event
    → waiting show rows (x ∷ h) row ≡ waiting show rows h row
waits_beside show rows x h row other =
    ap (waiting_of show rows row) (other_left rows x h row (λ same. other (sym same)))

-- ---- each event

module _ (show : Show) (rows : List Row) (h : List Entry) where
  -- what an event of a running row makes waits then
  now_waits : (x : Entry) (piece : Piece) → subject x.event < length rows
      → state_after rows (history_of h) (subject x.event) ≡ state.Running
      → waiting show rows (x ∷ h) (subject x.event) ≡ piece ∷ []
      → IsPermutation (all_waiting show rows (x ∷ h)) (piece ∷ all_waiting show rows h)
  now_waits x piece within runs new =
      let none = row_waits_not show rows h (subject x.event) within (ap is_waitable runs) in
      one_more (waiting show rows h) (waiting show rows (x ∷ h)) (subject x.event) piece
      (new ∙ ap (λ (xs : List Piece). xs ++ piece ∷ []) (sym none)) (waits_beside show rows x h) 0 (length rows)
      (omega arith) (omega (arith, within))

  accounted_with : (e : Event) (content : Content) → Fits rows (history_of h) e → IsInRange e
      → IsCarried rows (content_after rows h (subject e)) e content
      → IsPermutation (pieces_of show rows h) (all_claimed show rows h ++ all_waiting show rows h)
      → IsPermutation (pieces_of show rows (record { event = e; content = content } ∷ h))
      (all_claimed show rows (record { event = e; content = content } ∷ h)
      ++ all_waiting show rows (record { event = e; content = content } ∷ h))
  accounted_with (event.Publish row number stop) content fits range carried before =
      let x : Entry = record { event = event.Publish row number stop; content = content } in
      let within = fits_within rows (history_of h) (event.Publish row number stop) fits in
      let new : waiting show rows (x ∷ h) row ≡ stop_piece show content ∷ [] =
      ap (waiting_of show rows row) (own_left rows x h row refl) in
      let same : stop_piece show content ≡ Stopped (row_at rows row).tid number (stop_note show content) =
      λ i. Stopped (carried.0 i) (carried.1 i) (stop_note show content) in
      subst (λ piece. IsPermutation (piece ∷ pieces_of show rows h)
      (all_claimed show rows h ++ all_waiting show rows (x ∷ h))) same
      (join_made (pieces_of show rows h) (all_claimed show rows h) (all_waiting show rows h)
      (all_waiting show rows (x ∷ h)) (stop_piece show content) before
      (now_waits x (stop_piece show content) within fits.0 new))
  accounted_with (event.Exit row death) content fits range carried before =
      let x : Entry = record { event = event.Exit row death; content = content } in
      let within = fits_within rows (history_of h) (event.Exit row death) fits in
      let piece = Died (row_at rows row).tid (number_in (events_of row (history_of h))) death in
      let new : waiting show rows (x ∷ h) row ≡ piece ∷ [] =
      ap (waiting_of show rows row) (own_left rows x h row refl) in
      join_made (pieces_of show rows h) (all_claimed show rows h) (all_waiting show rows h)
      (all_waiting show rows (x ∷ h)) piece before (now_waits x piece within fits.0 new)
  accounted_with (event.Resume row number how tracer) content fits range carried before =
      let x : Entry = record { event = event.Resume row number how tracer; content = content } in
      let within = fits_within rows (history_of h) (event.Resume row number how tracer) fits in
      let none = row_waits_not show rows h row within (ap is_waitable fits) in
      let own : waiting show rows (x ∷ h) row ≡ waiting show rows h row =
      ap (waiting_of show rows row) (own_left rows x h row refl) ∙ sym none in
      let same : all_waiting show rows (x ∷ h) ≡ all_waiting show rows h =
      same_lists (waiting show rows (x ∷ h)) (waiting show rows h) 0 (length rows)
      (λ k low high. elim (cases_eq k row) [
        | inl is ↦ ap (waiting show rows (x ∷ h)) is ∙ own ∙ ap (waiting show rows h) (sym is)
        | inr other ↦ waits_beside show rows x h k other
      ]) in
      subst (λ (xs : List Piece). IsPermutation (pieces_of show rows h) (all_claimed show rows h ++ xs)) (sym same)
      before
  accounted_with (event.Claim row number tracer) content fits range carried before =
      let x : Entry = record { event = event.Claim row number tracer; content = content } in
      let within = fits_within rows (history_of h) (event.Claim row number tracer) fits in
      let piece =
      claimed_piece show (row_at rows row).tid (left_of rows h row).content (events_of row (history_of h)) in
      let waits : waiting show rows h row ≡ piece ∷ [] =
      one_waits show (row_at rows row).tid (left_of rows h row).content (is_born rows (history_of h) row)
      (events_of row (history_of h)) (ap is_waitable (sym (state_within rows (history_of h) row within)) ∙ fits.0) in
      let none : waiting show rows (x ∷ h) row ≡ [] = ap (waiting_of show rows row) (own_left rows x h row refl) in
      join_claimed (pieces_of show rows h) (all_claimed show rows h) (all_claimed show rows (x ∷ h))
      (all_waiting show rows h) (all_waiting show rows (x ∷ h)) piece before
      (one_more (λ t. pieces_claimed show rows t h) (λ t. pieces_claimed show rows t (x ∷ h)) tracer piece
      (rw (eq-eqb tracer tracer refl) refl)
      (λ k other. rw (ne_eqb tracer k (λ same. other (sym same))) refl) 0 TRACERS (omega arith) (omega (arith, range)))
      (one_more (waiting show rows (x ∷ h)) (waiting show rows h) row piece
      (waits ∙ ap (λ (xs : List Piece). xs ++ piece ∷ []) (sym none))
      (λ k other. sym (waits_beside show rows x h k other)) 0 (length rows) (omega arith) (omega (arith, within)))

-- what was made is claimed, or waits
pub accounted : (show : Show) (rows : List Row) (h : List Entry) → AreLegal rows h
    → IsPermutation (pieces_of show rows h) (all_claimed show rows h ++ all_waiting show rows h)
accounted show rows [] legal =
    let claimed = no_lists (λ tracer. pieces_claimed show rows tracer []) 0 TRACERS (λ k low high. refl) in
    let waits = no_lists (waiting show rows []) 0 (length rows) (λ k low high. refl) in
    subst (IsPermutation []) (λ i. sym claimed i ++ sym waits i) (IsPermutation-refl [])
accounted show rows (x ∷ h) legal =
    accounted_with show rows h x.event x.content legal.0.0 legal.0.1 legal.0.2 (accounted show rows h legal.1)

-- ---- where each born row has been reaped

reaped_waits_not : (show : Show) (rows : List Row) (h : List Entry) → AreLegal rows h → AreReaped rows h → (row : ℕ)
    → row < length rows → waiting show rows h row ≡ []
reaped_waits_not show rows h legal reaped row within =
    elim (cases_Bool (is_born rows (history_of h) row)) [
      | inl born ↦ row_waits_not show rows h row within (ap is_waitable (reaped row within born))
      | inr unborn ↦
          ap (waiting_piece show (row_at rows row).tid (left_of rows h row).content)
          (unborn_is_silent rows (history_of h) (legal_history rows h legal) row unborn)
    ]

-- the pieces of all claims are those of the run
all_are_claimed : (show : Show) (rows : List Row) (h : List Entry) → AreLegal rows h → AreReaped rows h
    → IsPermutation (pieces_of show rows h) (all_claimed show rows h)
all_are_claimed show rows h legal reaped =
    let none = no_lists (waiting show rows h) 0 (length rows)
    (λ k low high. reaped_waits_not show rows h legal reaped k (omega (arith, high))) in
    subst (IsPermutation (pieces_of show rows h))
    (ap (λ (xs : List Piece). all_claimed show rows h ++ xs) none ∙ append-nil (all_claimed show rows h))
    (accounted show rows h legal)

-- so they are whole
pub claims_are_whole : (show : Show) (rows : List Row) → IsRoster rows → (h : List Entry) → AreLegal rows h
    → AreReaped rows h → AreWhole rows (all_claimed show rows h)
claims_are_whole show rows roster h legal reaped =
    let made = pieces_of show rows h in
    let claimed = all_claimed show rows h in
    let taken = are_taken show rows roster h legal in
    let moved : IsPermutation made (reverse claimed) =
    IsPermutation-trans made claimed (reverse claimed) (all_are_claimed show rows h legal reaped)
    (IsPermutation-reverse claimed) in
    record {
      taken = taken_moved rows made (reverse claimed) taken moved;
      none_lost = same_lost rows made (reverse claimed) taken moved
          ∙ nothing_is_lost show rows roster h legal (reaped_dead rows h reaped);
    }
