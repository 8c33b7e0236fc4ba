-- One atomic step on words that stand at a history: a change that the history allows keeps each row's word the word of
-- its state after the longer history.
use Rattle.std.proofs.Common.{refl, ◌≡◌, ◌≢◌, ◌<◌, ◌∷◌, [], ℕ, Bool, true, false, Some, List, length, set, slice_get}
use Rattle.std.proofs.Common.{◌≤◌, slice_index, arith, ◌∙◌, sym, ap, inl, inr, eq-eqb, ne_eqb, slice_set}
use Rattle.std.proofs.Common.{get_or-set_same, get_or-set_other, length-set}
use Rattle.std.proofs.lemmas.Bool.{cases_Bool, cases_eq}
use Rattle.std.proofs.lemmas.Option.{slice_get-get_or}
use Rattle.stop_history.specs.declared.roster.Row.{Row}
use Rattle.stop_history.specs.declared.state.State.TheVariants as state
use Rattle.stop_history.specs.Word.{Word}
use Rattle.stop_history.specs.declared.phase.Phase.{Phase}
use Rattle.stop_history.specs.declared.phase.Phase.TheVariants as phase
use Rattle.stop_history.specs.Event as event
use Rattle.stop_history.specs.Event.{Event, History, events_of, subject}
use Rattle.stop_history.specs.State.{is_waitable, state_after}
use Rattle.stop_history.specs.History.{Fits}
use Rattle.stop_history.specs.Step.{claimed, claimed_by}
use Rattle.stop_history.specs.Word.{claimed_phase, phase_in, word_after, word_at, word_in}
use Rattle.stop_history.specs.Layout.{raw_of}
use Rattle.stop_history.specs.Standing.{AreAt, AreBits, bits_with}
use Rattle.stop_history.proofs.Events.{own_events, other_events}
use Rattle.stop_history.proofs.Standing.{held_word}
use Rattle.stop_history.specs.Change.{Happened, IsAllowed, Nothing, TakenUp, Change, history_with, taken_up}
use Rattle.stop_history.specs.Change.{taken_with, word_after_event, words_with}
use Rattle.stop_history.proofs.States.{fits_within, present, runs_on}

-- ---- one event

set_own : (words : List Word) (row : ℕ) (word : Word) → row < length words
    → slice_get (slice_set words row word) row ≡ Some word
set_own words row word within =
    slice_get-get_or (set words row word) row word
    (let long : length (set words row word) ≡ length words = length-set words row word in omega arith)
    ∙ ap Some (get_or-set_same words row word word within)

set_other : (words : List Word) (row other : ℕ) (word : Word) → other < length words → other ≢ row
    → slice_get (slice_set words row word) other ≡ slice_get words other
set_other words row other word within apart =
    slice_get-get_or (set words row word) other word
    (let long : length (set words row word) ≡ length words = length-set words row word in omega arith)
    ∙ ap Some (get_or-set_other words row other word word apart)
    ∙ sym (slice_get-get_or words other word within)

-- an event that fits, whose row's word is replaced by the one that the longer history leaves
pub stands_on : (rows : List Row) (words : List Word) (taken next : ℕ → Bool) (h : History) → AreAt rows words taken h
    → length words ≡ length rows
    → (e : Event) → Fits rows h e → subject e < length rows
    → (word : Word) → word ≡ word_after next (e ∷ h) (subject e)
    → next (subject e) ≡ false → ((row : ℕ) → row ≢ subject e → next row ≡ taken row)
    → AreAt rows (slice_set words (subject e) word) next (e ∷ h)
stands_on rows words taken next h at each e fits within word left lowered others = record {
  legal = (fits, at.legal);
  held = λ row here. elim (cases_eq row (subject e)) [
    | inl same ↦ ap (slice_get (slice_set words (subject e) word)) same ∙ set_own words (subject e) word (omega arith)
        ∙ ap Some (left ∙ ap (word_after next (e ∷ h)) (sym same))
    | inr other ↦
        set_other words (subject e) row word (omega arith) other ∙ at.held row here
        ∙ ap Some (ap (λ b. word_in b (events_of row h)) (sym (others row other))
        ∙ ap (word_in (next row)) (sym (other_events row e h (λ same. other (sym same)))))
  ];
  up = λ row is_up. elim (cases_eq row (subject e)) [
    | inl same ↦ let low : true ≡ false = sym is_up ∙ ap next same ∙ lowered in cc
    | inr other ↦ runs_on rows h e row other (at.up row (sym (others row other) ∙ is_up))
  ];
}

-- ---- the word that an event leaves

claim_again : (tracer other : ℕ) (es : List Event) → claimed_by tracer (claimed_phase other es) ≡ phase.Claimed tracer
claim_again tracer other [] = refl
claim_again tracer other (event.Publish row number stop ∷ es) = refl
claim_again tracer other (event.Claim row number third ∷ es) = refl
claim_again tracer other (event.Resume row number how third ∷ es) = refl
claim_again tracer other (event.Exit row death ∷ es) = refl

pub claimed_left : (tracer : ℕ) (es : List Event) → claimed_by tracer (phase_in es) ≡ claimed_phase tracer es
claimed_left tracer [] = refl
claimed_left tracer (event.Publish row number stop ∷ es) = refl
claimed_left tracer (event.Claim row number other ∷ es) = claim_again tracer other es
claimed_left tracer (event.Resume row number how other ∷ es) = refl
claimed_left tracer (event.Exit row death ∷ es) = refl

-- a row that a tracer's event fits is not taken up
pub not_running : (rows : List Row) (h : History) (taken : ℕ → Bool)
    → ((row : ℕ) → taken row ≡ true → state_after rows h row ≡ state.Running) → (row : ℕ)
    → state_after rows h row ≢ state.Running → taken row ≡ false
not_running rows h taken up row rests =
    elim (cases_Bool (taken row)) [ inl is_up ↦ absurd (rests (up row is_up)) | inr low ↦ low ]

pub lowered : (rows : List Row) (h : History) (taken : ℕ → Bool)
    → ((row : ℕ) → taken row ≡ true → state_after rows h row ≡ state.Running) → (e : Event) → Fits rows h e
    → taken_with (Happened e) taken (subject e) ≡ false
lowered rows h taken up (event.Publish row number stop) fits = rw (eq-eqb row row refl)
lowered rows h taken up (event.Claim row number tracer) fits =
    not_running rows h taken up row
    (λ runs. let clash : is_waitable state.Running ≡ true = ap is_waitable (sym runs) ∙ fits.0 in cc)
lowered rows h taken up (event.Resume row number how tracer) fits =
    not_running rows h taken up row
    (λ runs. let clash : state.Running ≡ state.Claimed number tracer = sym runs ∙ fits in cc)
lowered rows h taken up (event.Exit row death) fits = rw (eq-eqb row row refl)

pub kept : (taken : ℕ → Bool) (e : Event) (row : ℕ) → row ≢ subject e → taken_with (Happened e) taken row ≡ taken row
kept taken (event.Publish at number stop) row other = rw (ne_eqb row at other)
kept taken (event.Claim at number tracer) row other = refl
kept taken (event.Resume at number how tracer) row other = refl
kept taken (event.Exit at death) row other = rw (ne_eqb row at other)

claim_left : (taken : Bool) (tracer row number : ℕ) (es : List Event) → taken ≡ false
    → claimed (word_in taken es) tracer ≡ word_in false (event.Claim row number tracer ∷ es)
claim_left true tracer row number es low = cc
claim_left false tracer row number es low =
    ap (λ (p : Phase). record (word_in false es) { phase = p }) (claimed_left tracer es)

word_left : (rows : List Row) (h : History) (taken : ℕ → Bool)
    → ((row : ℕ) → taken row ≡ true → state_after rows h row ≡ state.Running) → (e : Event) → Fits rows h e
    → word_after_event (word_after taken h (subject e)) e ≡ word_in false (e ∷ events_of (subject e) h)
word_left rows h taken up (event.Publish row number stop) fits =
    ap (λ n. record (word_in false (event.Publish row n stop ∷ events_of row h)) { number = n }) (sym fits.1)
word_left rows h taken up (event.Claim row number tracer) fits =
    claim_left (taken row) tracer row number (events_of row h)
    (lowered rows h taken up (event.Claim row number tracer) fits)
word_left rows h taken up (event.Resume row number how tracer) fits = refl
word_left rows h taken up (event.Exit row death) fits = refl

-- an event leaves in its row the word that it makes of the row's word, and in every other row the word as it was
pub own_word : (rows : List Row) (h : History) (taken : ℕ → Bool)
    → ((row : ℕ) → taken row ≡ true → state_after rows h row ≡ state.Running) → (e : Event) → Fits rows h e
    → word_after (taken_with (Happened e) taken) (e ∷ h) (subject e)
    ≡ word_after_event (word_after taken h (subject e)) e
own_word rows h taken up e fits =
    ap (word_in (taken_with (Happened e) taken (subject e))) (own_events (subject e) e h refl)
    ∙ ap (λ b. word_in b (e ∷ events_of (subject e) h)) (lowered rows h taken up e fits)
    ∙ sym (word_left rows h taken up e fits)

pub other_word : (taken : ℕ → Bool) (h : History) (e : Event) (row : ℕ) → row ≢ subject e
    → word_after (taken_with (Happened e) taken) (e ∷ h) row ≡ word_after taken h row
other_word taken h e row apart =
    ap (λ b. word_in b (events_of row (e ∷ h))) (kept taken e row apart)
    ∙ ap (word_in (taken row)) (other_events row e h (λ same. apart (sym same)))

-- ---- the three changes

taken_stands : (rows : List Row) (words : List Word) (taken : ℕ → Bool) (h : History) → AreAt rows words taken h
    → length words ≡ length rows
    → (row : ℕ) → state_after rows h row ≡ state.Running → row < length rows
    → AreAt rows (words_with (TakenUp row) words) (taken_with (TakenUp row) taken) h
taken_stands rows words taken h at each row runs within = record {
  legal = at.legal;
  held = λ other here. elim (cases_eq other row) [
    | inl same ↦ ap (slice_get (slice_set words row (taken_up (word_at words row)))) same
        ∙ set_own words row (taken_up (word_at words row)) (omega arith)
        ∙ ap (λ w. Some (taken_up w)) (held_word rows words taken h at each row within)
        ∙ ap (λ b. Some (word_in b (events_of row h)))
        (let is_up : taken_with (TakenUp row) taken row ≡ true = rw (eq-eqb row row refl) in sym is_up)
        ∙ ap (λ r. Some (word_after (taken_with (TakenUp row) taken) h r)) (sym same)
    | inr apart ↦ set_other words row other (taken_up (word_at words row)) (omega arith) apart ∙ at.held other here
        ∙ ap (λ b. Some (word_in b (events_of other h)))
        (let still : taken_with (TakenUp row) taken other ≡ taken other = rw (ne_eqb other row apart) in sym still)
  ];
  up = λ other is_up. elim (cases_eq other row) [
    | inl same ↦ ap (state_after rows h) same ∙ runs
    | inr apart ↦ at.up other
        (let still : taken_with (TakenUp row) taken other ≡ taken other = rw (ne_eqb other row apart) in sym still
        ∙ is_up)
  ];
}

-- a change that the history allows, on plain lists of words
pub change_stands : (rows : List Row) (words : List Word) (taken : ℕ → Bool) (h : History) → AreAt rows words taken h
    → length words ≡ length rows
    → (change : Change) → IsAllowed rows h change
    → AreAt rows (words_with change words) (taken_with change taken) (history_with change h)
change_stands rows words taken h at each Nothing allowed = at
change_stands rows words taken h at each (TakenUp row) runs =
    taken_stands rows words taken h at each row runs
    (present rows h row (λ absent. let clash : state.Absent ≡ state.Running = sym absent ∙ runs in cc))
change_stands rows words taken h at each (Happened e) fits =
    let within = fits_within rows h e fits in
    let low = lowered rows h taken at.up e fits in
    stands_on rows words taken (taken_with (Happened e) taken) h at each e fits within
    (word_after_event (word_at words (subject e)) e)
    (ap (λ (w : Word). word_after_event w e) (held_word rows words taken h at each (subject e) within)
    ∙ sym (own_word rows h taken at.up e fits))
    low (kept taken e)

-- ---- take-ups, and the bits of words

pub taken_own : (taken : ℕ → Bool) (h : History) (row : ℕ)
    → word_after (taken_with (TakenUp row) taken) h row ≡ taken_up (word_after taken h row)
taken_own taken h row =
    let is_up : taken_with (TakenUp row) taken row ≡ true = rw (eq-eqb row row refl) in
    ap (λ b. word_in b (events_of row h)) is_up

pub taken_other : (taken : ℕ → Bool) (h : History) (at row : ℕ) → row ≢ at
    → word_after (taken_with (TakenUp at) taken) h row ≡ word_after taken h row
taken_other taken h at row apart =
    let still : taken_with (TakenUp at) taken row ≡ taken row = rw (ne_eqb row at apart) in
    ap (λ b. word_in b (events_of row h)) still

-- the bits of all rows, of which one is replaced
replaced : (rows : List Row) (bits : List ℕ) (before after : ℕ → Word) (at : ℕ) (word : Word) → at < length rows
    → length rows ≤ length bits
    → ((row : ℕ) → row < length rows → slice_index bits row ≡ raw_of (before row)) → word ≡ after at
    → ((row : ℕ) → row ≢ at → after row ≡ before row)
    → (row : ℕ) → row < length rows → slice_index (slice_set bits at (raw_of word)) row ≡ raw_of (after row)
replaced rows bits before after at word there long are own others row within =
    elim (cases_eq row at) [
      | inl same ↦
          ap (slice_index (slice_set bits at (raw_of word))) same
          ∙ get_or-set_same bits at (raw_of word) 0 (omega arith)
          ∙ ap raw_of (own ∙ ap after (sym same))
      | inr other ↦ get_or-set_other bits at row (raw_of word) 0 other ∙ are row within
          ∙ ap raw_of (sym (others row other))
    ]

pub bits_stand : (rows : List Row) (bits : List ℕ) (taken : ℕ → Bool) (h : History)
    → ((row : ℕ) → taken row ≡ true → state_after rows h row ≡ state.Running) → length rows ≤ length bits
    → AreBits rows bits taken h
    → (change : Change) → IsAllowed rows h change
    → AreBits rows (bits_with change (word_after taken h) bits) (taken_with change taken) (history_with change h)
bits_stand rows bits taken h up long are Nothing allowed = are
bits_stand rows bits taken h up long are (TakenUp row) runs =
    replaced rows bits (word_after taken h) (word_after (taken_with (TakenUp row) taken) h) row
    (taken_up (word_after taken h row))
    (present rows h row (λ absent. let clash : state.Absent ≡ state.Running = sym absent ∙ runs in cc)) long are
    (sym (taken_own taken h row)) (taken_other taken h row)
bits_stand rows bits taken h up long are (Happened e) fits =
    replaced rows bits (word_after taken h) (word_after (taken_with (Happened e) taken) (e ∷ h)) (subject e)
    (word_after_event (word_after taken h (subject e)) e)
    (fits_within rows h e fits) long are (sym (own_word rows h taken up e fits)) (other_word taken h e)
