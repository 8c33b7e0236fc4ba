-- What the pieces of a run say of a row: its stops by their numbers, its death, and the number of its last stop.
use Rattle.std.proofs.Common.{refl, ◌≡◌, ◌≢◌, ◌<◌, ◌≤◌, ◌+◌, ◌==◌, ◌&&◌, ◌∷◌, ◌++◌, [], ℕ, Bool, true, false, max}
use Rattle.std.proofs.Common.{List, Option, Some, None, IsSome, option_map, length, map, ◌∙◌, sym, ap, subst, inl, inr}
use Rattle.std.proofs.Common.{eq-eqb, ne_eqb, arith, cond, if◌then◌else◌}
use Rattle.std.specs.Option.{option_to_list}
use Rattle.std.proofs.lemmas.Bool.{cases_eq}
use Rattle.std.proofs.lemmas.List.{map-append}
use Rattle.trace_record.specs.Content.{Content}
use Rattle.trace_record.specs.declared.death.Death.{Death}
use Rattle.stop_history.specs.declared.roster.Row.{Row}
use Rattle.stop_history.specs.declared.state.State.TheVariants as state
use Rattle.stop_history.specs.Event as event
use Rattle.stop_history.specs.Event.{Event, events_of, subject}
use Rattle.stop_history.specs.History.{Fits}
use Rattle.stop_history.specs.Roster.{IsRoster, row_at, row_of}
use Rattle.stop_history.specs.State.{claimed_state, is_born, is_ended, is_waitable, last_number, number_in, state_after}
use Rattle.stop_history.specs.State.{state_in}
use Rattle.stop_history.proofs.Rosters.{row_of-tid}
use Rattle.stop_history.proofs.States.{claim_is_none, fits_within, state_within}
use Rattle.stop_table.specs.Entry.{AreLegal, Entry, history_of}
use Rattle.record_printer.specs.Came.{ending_of, last_of, stop_of}
use Rattle.record_printer.specs.Note.{Note, Stops}
use Rattle.record_printer.specs.Piece.{Piece}
use Rattle.record_printer.specs.RowAnswers.{notes_from}
use Rattle.record_printer.specs.StopNote.{stop_note}
use Rattle.record_printer.specs.declared.call.show.Show.{Show}
use Rattle.record_printer.specs.declared.fold.ending.Ending.{Ending}
use Rattle.record_printer.proofs.Stops.{notes_join, notes_same}
use Rattle.tracer_workers.specs.CaseText.{death_after, published_contents}
use Rattle.tracer_workers.specs.HistoryPieces.{pieces_of, pieces_with}
use Rattle.tracer_workers.proofs.Left.{Left, left_of, left_with, other_left, own_left}

-- ---- rows by their thread ids

-- a thread id is that of its row alone
pub same_row : (rows : List Row) → IsRoster rows → (i k : ℕ) → i < length rows → k < length rows
    → (row_at rows i).tid ≡ (row_at rows k).tid → i ≡ k
same_row rows roster i k first second same =
    let found : Some i ≡ Some k =
    sym (row_of-tid rows roster i first) ∙ ap (row_of rows) same ∙ row_of-tid rows roster k second in cc

pub other_tid : (rows : List Row) → IsRoster rows → (i k : ℕ) → i < length rows → k < length rows → i ≢ k
    → ((row_at rows i).tid == (row_at rows k).tid) ≡ false
other_tid rows roster i k first second other =
    ne_eqb _ _ (λ same. other (same_row rows roster i k first second same))

-- ---- a row that has died has ended

claim_ends : (born : Bool) (es : List Event) (number tracer : ℕ) → is_waitable (state_in born es) ≡ true
    → is_ended (state_in born es) ≡ true → is_ended (claimed_state number tracer es) ≡ true
claim_ends true [] number tracer waitable ended = cc
claim_ends false [] number tracer waitable ended = cc
claim_ends born (event.Publish row n stop ∷ es) number tracer waitable ended = cc
claim_ends born (event.Claim row n other ∷ es) number tracer waitable ended =
    let clash : false ≡ true = sym (claim_is_none (number_in es) other es) ∙ waitable in cc
claim_ends born (event.Resume row n how other ∷ es) number tracer waitable ended = cc
claim_ends born (event.Exit row death ∷ es) number tracer waitable ended = refl

own_ended : (rows : List Row) (h : List Entry) (e : Event) (content : Content) (death : Death)
    → Fits rows (history_of h) e
    → ((d : Death) → death_after h (subject e) ≡ Some d → (born : Bool)
    → is_ended (state_in born (events_of (subject e) (history_of h))) ≡ true)
    → (left_with rows h (subject e) e content).death ≡ Some death → (born : Bool)
    → is_ended (state_in born (e ∷ events_of (subject e) (history_of h))) ≡ true
own_ended rows h (event.Publish row number stop) content death fits before died born =
    let runs : state_in (is_born rows (history_of h) row) (events_of row (history_of h)) ≡ state.Running =
    sym (state_within rows (history_of h) row (fits_within rows (history_of h) (event.Publish row number stop) fits)) ∙ fits.0 in
    let clash : is_ended state.Running ≡ true =
    ap is_ended (sym runs) ∙ before death died (is_born rows (history_of h) row) in cc
own_ended rows h (event.Claim row number tracer) content death fits before died born =
    let within = fits_within rows (history_of h) (event.Claim row number tracer) fits in
    claim_ends (is_born rows (history_of h) row) (events_of row (history_of h)) (number_in (events_of row (history_of h)))
    tracer (ap is_waitable (sym (state_within rows (history_of h) row within)) ∙ fits.0)
    (before death died (is_born rows (history_of h) row))
own_ended rows h (event.Resume row number how tracer) content death fits before died born =
    let held : state_in (is_born rows (history_of h) row) (events_of row (history_of h)) ≡ state.Claimed number tracer =
    sym (state_within rows (history_of h) row (fits_within rows (history_of h) (event.Resume row number how tracer) fits))
    ∙ fits in
    let clash : is_ended (state.Claimed number tracer) ≡ true =
    ap is_ended (sym held) ∙ before death died (is_born rows (history_of h) row) in cc
own_ended rows h (event.Exit row d) content death fits before died born = refl

pub died_is_ended : (rows : List Row) (h : List Entry) → AreLegal rows h → (row : ℕ) (death : Death)
    → death_after h row ≡ Some death → (born : Bool)
    → is_ended (state_in born (events_of row (history_of h))) ≡ true
died_is_ended rows [] legal row death died born = cc
died_is_ended rows (x ∷ h) legal row death died born =
    elim (cases_eq (subject x.event) row) [
      | inl same ↦
          (let at : left_of rows (x ∷ h) (subject x.event) ≡ left_with rows h (subject x.event) x.event x.content =
          own_left rows x h (subject x.event) refl in
          let here : death_after (x ∷ h) (subject x.event) ≡ Some death =
          ap (death_after (x ∷ h)) same ∙ died in
          let own : is_ended (state_in born (events_of (subject x.event) (history_of (x ∷ h)))) ≡ true =
          ap (λ (a : Left). is_ended (state_in born a.events)) at
          ∙ own_ended rows h x.event x.content death legal.0.0
          (λ d is b. died_is_ended rows h legal.1 (subject x.event) d is b)
          (sym (ap (λ (a : Left). a.death) at) ∙ here) born in
          ap (λ r. is_ended (state_in born (events_of r (history_of (x ∷ h))))) (sym same) ∙ own)
      | inr other ↦
          (let at = other_left rows x h row other in
          ap (λ (a : Left). is_ended (state_in born a.events)) at
          ∙ died_is_ended rows h legal.1 row death (sym (ap (λ (a : Left). a.death) at) ∙ died) born)
    ]

none_or_clash : (d : Option Death) → ((death : Death) → d ≡ Some death → ⊥) → d ≡ None
none_or_clash None clash = refl
none_or_clash (Some death) clash = absurd (clash death refl)

-- a running row has no death
pub runs_alive : (rows : List Row) (h : List Entry) → AreLegal rows h → (row : ℕ) → row < length rows
    → state_after rows (history_of h) row ≡ state.Running → death_after h row ≡ None
runs_alive rows h legal row within runs =
    none_or_clash (death_after h row) (λ death died.
    let at : state_in (is_born rows (history_of h) row) (events_of row (history_of h)) ≡ state.Running =
    sym (state_within rows (history_of h) row within) ∙ runs in
    let clash : is_ended state.Running ≡ true =
    ap is_ended (sym at) ∙ died_is_ended rows h legal row death died (is_born rows (history_of h) row) in cc)

-- ---- what is asked of the pieces of a row

pub record Told : Type 0 where
  pub stops : Stops
  pub ending : Option Ending
  pub last : ℕ

abbrev pub told_of : ℕ → List Piece → Told
told_of tid pieces = record { stops = stop_of tid pieces; ending = ending_of tid pieces; last = last_of tid pieces }

abbrev pub ending_at : ℕ → Option Death → Option Ending
ending_at number death = option_map (λ d. record { number = number; death = d }) death

-- the pieces say what the history has left of the row
pub record Agrees (show : Show) (told : Told) (a : Left) : Type 0 where
  pub last : told.last ≡ number_in a.events
  pub no_more : (n : ℕ) → number_in a.events < n → told.stops n ≡ None
  pub there : (n : ℕ) → 1 ≤ n → n ≤ number_in a.events → IsSome (told.stops n)
  pub order : notes_from told.stops 1 (number_in a.events) ≡ map (stop_note show) a.stops
  pub ending : told.ending ≡ ending_at (number_in a.events) a.death

-- ---- a piece of another row

other_stops : (p q : Bool) (note : Note) (o : Option Note) → p ≡ false → cond (p && q) (Some note) o ≡ o
other_stops true q note o is = cc
other_stops false q note o is = refl

other_told : (show : Show) (rows : List Row) → IsRoster rows → (h : List Entry) (e : Event) (content : Content)
    (pieces : List Piece) (row : ℕ) → row < length rows → subject e < length rows → subject e ≢ row
    → told_of (row_at rows row).tid (pieces_with show rows h e content pieces) ≡ told_of (row_at rows row).tid pieces
other_told show rows roster h (event.Publish at number stop) content pieces row within there other =
    let tid = (row_at rows row).tid in
    let apart = other_tid rows roster at row there within other in
    λ i. record {
      stops = λ n. other_stops ((row_at rows at).tid == tid) (number == n) (stop_note show content) (stop_of tid pieces n)
          apart i;
      ending = ending_of tid pieces;
      last = ap (λ b. cond b (max (last_of tid pieces) number) (last_of tid pieces)) apart i;
    }
other_told show rows roster h (event.Exit at death) content pieces row within there other =
    let tid = (row_at rows row).tid in
    let apart = other_tid rows roster at row there within other in
    λ i. record {
      stops = stop_of tid pieces;
      ending = ap (λ b. cond b (Some (record { number = last_number (history_of h) at; death = death })) (ending_of tid pieces))
          apart i;
      last = last_of tid pieces;
    }
other_told show rows roster h (event.Claim at number tracer) content pieces row within there other = refl
other_told show rows roster h (event.Resume at number how tracer) content pieces row within there other = refl

-- ---- a piece of the row's own

-- the stops and one more
abbrev pub with_number : ℕ → Note → Stops → Stops
with_number number note stops n = if number == n then Some note else stops n

own_stops : (p q : Bool) (note : Note) (o : Option Note) → p ≡ true
    → cond (p && q) (Some note) o ≡ cond q (Some note) o
own_stops true q note o is = refl
own_stops false q note o is = cc

abbrev told_with : Event → Note → ℕ → Told → Told
told_with (event.Publish row number stop) note count told = record {
  stops = with_number number note told.stops;
  ending = told.ending;
  last = max told.last number;
}
told_with (event.Exit row death) note count told = record {
  stops = told.stops;
  ending = Some (record { number = count; death = death });
  last = told.last;
}
told_with (event.Claim row number tracer) note count told = told
told_with (event.Resume row number how tracer) note count told = told

own_told : (show : Show) (rows : List Row) (h : List Entry) (e : Event) (content : Content) (pieces : List Piece)
    → told_of (row_at rows (subject e)).tid (pieces_with show rows h e content pieces)
    ≡ told_with e (stop_note show content) (last_number (history_of h) (subject e))
    (told_of (row_at rows (subject e)).tid pieces)
own_told show rows h (event.Publish at number stop) content pieces =
    let tid = (row_at rows at).tid in
    let same = eq-eqb tid tid refl in
    λ i. record {
      stops = λ n. own_stops (tid == tid) (number == n) (stop_note show content) (stop_of tid pieces n) same i;
      ending = ending_of tid pieces;
      last = ap (λ b. cond b (max (last_of tid pieces) number) (last_of tid pieces)) same i;
    }
own_told show rows h (event.Exit at death) content pieces =
    let tid = (row_at rows at).tid in
    λ i. record {
      stops = stop_of tid pieces;
      ending = ap (λ b. cond b (Some (record { number = last_number (history_of h) at; death = death })) (ending_of tid pieces))
          (eq-eqb tid tid refl) i;
      last = last_of tid pieces;
    }
own_told show rows h (event.Claim at number tracer) content pieces = refl
own_told show rows h (event.Resume at number how tracer) content pieces = refl

-- one stop more, the next in number
pushed_notes : (show : Show) (stops : Stops) (k : ℕ) (note : Note)
    → notes_from (with_number (k + 1) note stops) 1 (k + 1) ≡ notes_from stops 1 k ++ note ∷ []
pushed_notes show stops k note =
    let e : 1 + k ≡ k + 1 = omega arith in
    notes_join (with_number (k + 1) note stops) 1 k 1
    ∙ ap (λ (front : List Note). front ++ notes_from (with_number (k + 1) note stops) (1 + k) 1)
    (notes_same (with_number (k + 1) note stops) stops 1 k
    (λ n low high. ap (λ b. cond b (Some note) (stops n)) (ne_eqb (k + 1) n (omega arith))))
    ∙ ap (λ (o : Option Note). notes_from stops 1 k ++ (option_to_list o ++ []))
    (ap (with_number (k + 1) note stops) e ∙ ap (λ b. cond b (Some note) (stops (k + 1))) (eq-eqb (k + 1) (k + 1) refl))

there_with : (number n : ℕ) (note : Note) (stops : Stops) → (n < number → IsSome (stops n)) → n ≤ number
    → IsSome (with_number number note stops n)
there_with number n note stops before within =
    elim (cases_eq number n) [
      | inl same ↦ rw (eq-eqb number n same) refl
      | inr other ↦ rw (ne_eqb number n other) (before (omega arith))
    ]

max_next : (k : ℕ) → max k (k + 1) ≡ k + 1
max_next k = omega arith

own_agrees : (show : Show) (rows : List Row) → IsRoster rows → (h : List Entry) → AreLegal rows h → (e : Event)
    (content : Content) → Fits rows (history_of h) e → (told : Told)
    → Agrees show told (left_of rows h (subject e))
    → Agrees show (told_with e (stop_note show content) (last_number (history_of h) (subject e)) told)
    (left_with rows h (subject e) e content)
own_agrees show rows roster h legal (event.Publish row number stop) content fits told before =
    let k = number_in (events_of row (history_of h)) in
    let next : number ≡ k + 1 = fits.1 in
    let alive = runs_alive rows h legal row (fits_within rows (history_of h) (event.Publish row number stop) fits) fits.0 in
    let note = stop_note show content in
    record {
      last = ap (λ m. max m number) before.last ∙ ap (max k) next ∙ max_next k ∙ sym next;
      no_more = λ n more. ap (λ b. cond b (Some note) (told.stops n)) (ne_eqb number n (omega (arith, more)))
          ∙ before.no_more n (omega (arith, more, next));
      there = λ n low high. there_with number n note told.stops (λ less. before.there n low (omega (arith, less, next))) high;
      order = ap (λ m. notes_from (with_number m note told.stops) 1 m) next
          ∙ pushed_notes show told.stops k note
          ∙ ap (λ (front : List Note). front ++ note ∷ []) before.order
          ∙ sym (map-append (stop_note show) (published_contents h row) (content ∷ []));
      ending = before.ending ∙ ap (ending_at k) alive ∙ sym (ap (ending_at number) alive);
    }
own_agrees show rows roster h legal (event.Exit row death) content fits told before = record {
  last = before.last;
  no_more = before.no_more;
  there = before.there;
  order = before.order;
  ending = refl;
}
own_agrees show rows roster h legal (event.Claim row number tracer) content fits told before = record {
  last = before.last;
  no_more = before.no_more;
  there = before.there;
  order = before.order;
  ending = before.ending;
}
own_agrees show rows roster h legal (event.Resume row number how tracer) content fits told before = record {
  last = before.last;
  no_more = before.no_more;
  there = before.there;
  order = before.order;
  ending = before.ending;
}

pub agrees : (show : Show) (rows : List Row) → IsRoster rows → (h : List Entry) → AreLegal rows h → (row : ℕ)
    → row < length rows
    → Agrees show (told_of (row_at rows row).tid (pieces_of show rows h)) (left_of rows h row)
agrees show rows roster [] legal row within = record {
  last = refl;
  no_more = λ n more. refl;
  there = λ n low high. absurd (omega (arith, low, high));
  order = refl;
  ending = refl;
}
agrees show rows roster (x ∷ h) legal row within =
    let there = fits_within rows (history_of h) x.event legal.0.0 in
    elim (cases_eq (subject x.event) row) [
      | inl same ↦
          (let own : Agrees show (told_of (row_at rows (subject x.event)).tid (pieces_of show rows (x ∷ h)))
          (left_of rows (x ∷ h) (subject x.event)) =
          subst (λ (p : Told × Left). Agrees show p.0 p.1)
          (λ i. (
            sym (own_told show rows h x.event x.content (pieces_of show rows h)) i,
            sym (own_left rows x h (subject x.event) refl) i,
          ))
          (own_agrees show rows roster h legal.1 x.event x.content legal.0.0
          (told_of (row_at rows (subject x.event)).tid (pieces_of show rows h))
          (agrees show rows roster h legal.1 (subject x.event) there)) in
          subst (λ r. Agrees show (told_of (row_at rows r).tid (pieces_of show rows (x ∷ h))) (left_of rows (x ∷ h) r)) same own)
      | inr other ↦
          subst (λ (p : Told × Left). Agrees show p.0 p.1)
          (λ i. (
            sym (other_told show rows roster h x.event x.content (pieces_of show rows h) row within there other) i,
            sym (other_left rows x h row other) i,
          ))
          (agrees show rows roster h legal.1 row within)
    ]
