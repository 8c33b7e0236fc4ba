-- What threads bring back, put together: the pieces of what was claimed, and the entries of each handle's actors.
use Rattle.std.proofs.Common.{refl, ◌≡◌, ◌||◌, ◌∷◌, ◌++◌, [], ℕ, Bool, true, false, List, inl, inr}
use Rattle.std.proofs.Common.{◌∙◌, sym, ap, subst, arith, eq-eqb, ne_eqb}
use Rattle.std.specs.List.{Contains}
use Rattle.std.proofs.lemmas.Bool.{cases_Bool, cases_eq}
use Rattle.std.proofs.lemmas.List.Elements.{Contains-append_right, Contains-push_cases}
use Rattle.record_printer.specs.Piece.{Died, Piece, Stopped}
use Rattle.record_printer.specs.StopNote.{stop_note}
use Rattle.record_printer.specs.declared.call.show.Show.{Show}
use Rattle.stop_history.specs.Actor.{actor_of}
use Rattle.stop_history.specs.declared.actor.Actor.{Actor}
use Rattle.stop_history.specs.declared.roster.Row.{Row}
use Rattle.stop_history.specs.Event as event
use Rattle.stop_history.specs.Event.{Event, events_of, subject}
use Rattle.stop_history.specs.Roster.{row_at}
use Rattle.stop_history.specs.State.{is_born, is_waitable, number_in, state_in}
use Rattle.stop_history.proofs.States.{claim_is_none, fits_within, state_within}
use Rattle.stop_table.specs.Entry.{AreLegal, Entry, IsCarried, content_after, content_with, history_of}
use Rattle.stop_table.specs.Handle.{Meets}
use Rattle.stop_table.specs.View.{View, actors_of}
use Rattle.stop_table.proofs.Own.{actors_of_both}
use Rattle.trace_record.specs.Content.{Content}
use Rattle.trace_record.specs.declared.death.Death.{Death}
use Rattle.trace_record.specs.declared.stop.Stop.{Stop}
use Rattle.tracer_workers.specs.DrivenBy.{AreDrivenBy}
use Rattle.tracer_workers.specs.HistoryPieces as history
use Rattle.tracer_workers.specs.HistoryPieces.{pieces_of, stop_piece}
use Rattle.tracer_workers.specs.Plan.{Plan}
use Rattle.tracer_workers.specs.WorkerThread.{claimed_piece, pieces_claimed, worker_pieces_with}
use Rattle.tracer_workers.proofs.Left.{Left, other_left, own_left}
use Rattle.tracer_workers.proofs.OwnEntries.{driven_on}

-- ---- pieces

first : {A : Type 0} (x : A) (xs : List A) → Contains (x ∷ xs) x
first x xs = (0, omega arith, refl)

later : (show : Show) (rows : List Row) (h : List Entry) (e : Event) (content : Content) (pieces : List Piece) (p : Piece)
    → Contains pieces p → Contains (history.pieces_with show rows h e content pieces) p
later show rows h (event.Publish row number at) content pieces p is =
    Contains-append_right (Stopped (row_at rows row).tid number (stop_note show content) ∷ []) pieces p is
later show rows h (event.Exit row death) content pieces p is = Contains-append_right (Died _ _ death ∷ []) pieces p is
later show rows h (event.Claim row number tracer) content pieces p is = is
later show rows h (event.Resume row number how tracer) content pieces p is = is

stop_here : (show : Show) (rows : List Row) (h : List Entry) (e : Event) (content before old : Content)
    (pieces : List Piece) (row number : ℕ) (at : Stop) → IsCarried rows old e content → e ≡ event.Publish row number at
    → Contains (history.pieces_with show rows h e content pieces) (stop_piece show (content_with e content before))
stop_here show rows h (event.Publish own n stop) content before old pieces row number at carried is =
    subst (Contains (Stopped (row_at rows own).tid n (stop_note show content) ∷ pieces))
    (λ i. Stopped (sym carried.0 i) (sym carried.1 i) (stop_note show content))
    (first (Stopped (row_at rows own).tid n (stop_note show content)) pieces)
stop_here show rows h (event.Claim own n tracer) content before old pieces row number at carried is = cc
stop_here show rows h (event.Resume own n how tracer) content before old pieces row number at carried is = cc
stop_here show rows h (event.Exit own death) content before old pieces row number at carried is = cc

-- the piece of a row that stands at a stop was made
stop_made : (show : Show) (rows : List Row) (row n number : ℕ) (at : Stop) (es : List Event) (h : List Entry)
    → AreLegal rows h → events_of row (history_of h) ≡ event.Publish n number at ∷ es
    → Contains (pieces_of show rows h) (stop_piece show (content_after rows h row))
stop_made show rows row n number at es [] legal is = cc
stop_made show rows row n number at es (x ∷ h) legal is =
    elim (cases_eq (subject x.event) row) [
      | inl same ↦
          (let own : x.event ∷ events_of row (history_of h) ≡ event.Publish n number at ∷ es =
          sym (ap (λ (a : Left). a.events) (own_left rows x h row same)) ∙ is in
          let newest : x.event ≡ event.Publish n number at = cc in
          subst (λ (a : Left). Contains (pieces_of show rows (x ∷ h)) (stop_piece show a.content))
          (sym (own_left rows x h row same))
          (stop_here show rows h x.event x.content (content_after rows h row) (content_after rows h (subject x.event))
          (pieces_of show rows h) n number at legal.0.2
          newest))
      | inr other ↦
          (let left = other_left rows x h row other in
          subst (λ (a : Left). Contains (pieces_of show rows (x ∷ h)) (stop_piece show a.content)) (sym left)
          (later show rows h x.event x.content (pieces_of show rows h) (stop_piece show (content_after rows h row))
          (stop_made show rows row n number at es h legal.1 (sym (ap (λ (a : Left). a.events) left) ∙ is))))
    ]

death_here : (show : Show) (rows : List Row) (h : List Entry) (e : Event) (content : Content) (pieces : List Piece)
    (n : ℕ) (death : Death) → e ≡ event.Exit n death
    → Contains (history.pieces_with show rows h e content pieces)
    (Died (row_at rows (subject e)).tid (number_in (events_of (subject e) (history_of h))) death)
death_here show rows h (event.Exit own dies) content pieces n death is =
    let same : dies ≡ death = cc in
    subst (λ d. Contains
    (Died (row_at rows own).tid (number_in (events_of own (history_of h))) dies ∷ pieces)
    (Died (row_at rows own).tid (number_in (events_of own (history_of h))) d)) same
    (first (Died (row_at rows own).tid (number_in (events_of own (history_of h))) dies) pieces)
death_here show rows h (event.Publish own m stop) content pieces n death is = cc
death_here show rows h (event.Claim own m tracer) content pieces n death is = cc
death_here show rows h (event.Resume own m how tracer) content pieces n death is = cc

-- and so was that of one that has ended
death_made : (show : Show) (rows : List Row) (row n : ℕ) (death : Death) (es : List Event) (h : List Entry)
    → events_of row (history_of h) ≡ event.Exit n death ∷ es
    → Contains (pieces_of show rows h) (Died (row_at rows row).tid (number_in es) death)
death_made show rows row n death es [] is = cc
death_made show rows row n death es (x ∷ h) is =
    elim (cases_eq (subject x.event) row) [
      | inl same ↦
          (let own : x.event ∷ events_of row (history_of h) ≡ event.Exit n death ∷ es =
          sym (ap (λ (a : Left). a.events) (own_left rows x h row same)) ∙ is in
          let newest : x.event ≡ event.Exit n death = cc in
          let older : events_of row (history_of h) ≡ es = cc in
          let here = death_here show rows h x.event x.content (pieces_of show rows h) n death newest in
          subst (λ es. Contains (pieces_of show rows (x ∷ h)) (Died (row_at rows row).tid (number_in es) death)) older
          (subst (λ r. Contains (pieces_of show rows (x ∷ h))
          (Died (row_at rows r).tid (number_in (events_of r (history_of h))) death)) same here))
      | inr other ↦
          later show rows h x.event x.content (pieces_of show rows h) (Died (row_at rows row).tid (number_in es) death)
          (death_made show rows row n death es h
          (sym (ap (λ (a : Left). a.events) (other_left rows x h row other)) ∙ is))
    ]

-- what a claim takes was made
claim_made : (show : Show) (rows : List Row) (row : ℕ) (born : Bool) (h : List Entry) (es : List Event)
    → AreLegal rows h → events_of row (history_of h) ≡ es → is_waitable (state_in born es) ≡ true
    → Contains (pieces_of show rows h) (claimed_piece show (row_at rows row).tid (content_after rows h row) es)
claim_made show rows row true h [] legal is waits = cc
claim_made show rows row false h [] legal is waits = cc
claim_made show rows row born h (event.Publish n number at ∷ es) legal is waits =
    stop_made show rows row n number at es h legal is
claim_made show rows row born h (event.Claim n number tracer ∷ es) legal is waits =
    let clash : false ≡ true = sym (claim_is_none (number_in es) tracer es) ∙ waits in cc
claim_made show rows row born h (event.Resume n number how tracer ∷ es) legal is waits = cc
claim_made show rows row born h (event.Exit n death ∷ es) legal is waits = death_made show rows row n death es h is

claimed_with : (show : Show) (rows : List Row) (tracer : ℕ) (h : List Entry) (e : Event) (content : Content) (p : Piece)
    → AreLegal rows h → (row number claimer : ℕ) → e ≡ event.Claim row number claimer
    → is_waitable (state_in (is_born rows (history_of h) row) (events_of row (history_of h))) ≡ true
    → ((q : Piece) → Contains (pieces_claimed show rows tracer h) q → Contains (pieces_of show rows h) q)
    → Contains (worker_pieces_with show rows tracer h (event.Claim row number claimer)
    (pieces_claimed show rows tracer h)) p
    → Contains (pieces_of show rows h) p
claimed_with show rows tracer h e content p legal row number claimer is waits before has =
    elim (cases_eq claimer tracer) [
      | inl same ↦
          (let piece =
          claimed_piece show (row_at rows row).tid (content_after rows h row) (events_of row (history_of h)) in
          let there : Contains (pieces_claimed show rows tracer h ++ piece ∷ []) p =
          rw (eq-eqb claimer tracer same) at has in
          elim (Contains-push_cases (pieces_claimed show rows tracer h) piece p there) [
            | inl old ↦ before p old
            | inr new ↦
                subst (Contains (pieces_of show rows h)) new
                (claim_made show rows row (is_born rows (history_of h) row) h (events_of row (history_of h)) legal refl waits)
          ])
      | inr other ↦
          (let there : Contains (pieces_claimed show rows tracer h) p = rw (ne_eqb claimer tracer other) at has in
          before p there)
    ]

claimed_by_event : (show : Show) (rows : List Row) (tracer : ℕ) (h : List Entry) (e : Event) (content : Content)
    (p : Piece) → AreLegal rows (record { event = e; content = content } ∷ h)
    → ((q : Piece) → Contains (pieces_claimed show rows tracer h) q → Contains (pieces_of show rows h) q)
    → Contains (worker_pieces_with show rows tracer h e (pieces_claimed show rows tracer h)) p
    → Contains (history.pieces_with show rows h e content (pieces_of show rows h)) p
claimed_by_event show rows tracer h (event.Publish row number at) content p legal before has =
    later show rows h (event.Publish row number at) content (pieces_of show rows h) p (before p has)
claimed_by_event show rows tracer h (event.Exit row death) content p legal before has =
    later show rows h (event.Exit row death) content (pieces_of show rows h) p (before p has)
claimed_by_event show rows tracer h (event.Resume row number how claimer) content p legal before has = before p has
claimed_by_event show rows tracer h (event.Claim row number claimer) content p legal before has =
    let within = fits_within rows (history_of h) (event.Claim row number claimer) legal.0.0 in
    let waits = ap is_waitable (sym (state_within rows (history_of h) row within)) ∙ legal.0.0.0 in
    claimed_with show rows tracer h (event.Claim row number claimer) content p legal.1 row number claimer refl waits before has

-- each piece of a tracer's claims is one of the history
pub claimed_are_made : (show : Show) (rows : List Row) (tracer : ℕ) (h : List Entry) → AreLegal rows h → (p : Piece)
    → Contains (pieces_claimed show rows tracer h) p → Contains (pieces_of show rows h) p
claimed_are_made show rows tracer [] legal p has = has
claimed_are_made show rows tracer (x ∷ h) legal p has =
    claimed_by_event show rows tracer h x.event x.content p legal (claimed_are_made show rows tracer h legal.1) has

-- ---- entries

driven_of_both : (f g k : Actor → Bool) → ((a : Actor) → k a ≡ (f a || g a)) → (plan : Plan) (h : List Entry)
    → AreDrivenBy f plan h → AreDrivenBy g plan h → AreDrivenBy k plan h
driven_of_both f g k is plan [] one other = tt
driven_of_both f g k is plan (x ∷ h) one other = (
  λ own. elim (cases_Bool (f (actor_of x.event))) [
    | inl first ↦ one.0 first
    | inr not_first ↦
        (let either : (f (actor_of x.event) || g (actor_of x.event)) ≡ true = sym (is (actor_of x.event)) ∙ own in
        other.0 (rw not_first at either))
  ],
  driven_of_both f g k is plan h one.1 other.1,
)

pub driven_meet : (plan : Plan) (v w u : View) → Meets v w u → AreDrivenBy (actors_of v) plan v.seen
    → AreDrivenBy (actors_of w) plan w.seen → AreDrivenBy (actors_of u) plan u.seen
driven_meet plan v w u m one other =
    driven_of_both (actors_of v) (actors_of w) (actors_of u) (actors_of_both v w u m) plan u.seen
    (driven_on (actors_of v) plan v.seen u.seen m.left one)
    (driven_on (actors_of w) plan w.seen u.seen m.right other)
