-- Running histories: what their events say of them, and what they leave of a row as they go on.
use Rattle.std.proofs.Common.{refl, ◌≡◌, ◌≢◌, ◌<◌, ◌≤◌, ◌∷◌, ◌++◌, [], ℕ, Bool, true, List}
use Rattle.std.proofs.Common.{length, arith, ◌∙◌, sym, ap, inl, inr, subst, eq-eqb, ne_eqb}
use Rattle.std.proofs.lemmas.Bool.{cases_eq}
use Rattle.std.proofs.lemmas.List.{append_assoc}
use Rattle.trace_record.specs.Content.{Content}
use Rattle.stop_history.specs.declared.actor.Actor.{Actor}
use Rattle.stop_history.specs.declared.roster.Row.{Row}
use Rattle.stop_history.specs.Actor.{IsQuiet, is_moved_by, mover_of}
use Rattle.stop_history.specs.Event as event
use Rattle.stop_history.specs.Event.{Event, History, events_of, subject}
use Rattle.stop_history.specs.History.{IsLegal, births_in}
use Rattle.stop_history.specs.Ranges.{AreInRange}
use Rattle.stop_history.specs.Roster.{IsRoster, row_at}
use Rattle.stop_history.specs.State.{is_born, number_in, state_after}
use Rattle.stop_history.specs.Word.{IsWord, phase_in, shown}
use Rattle.stop_history.proofs.Events.{other_events, own_events}
use Rattle.stop_history.proofs.LegalWords.{legal_word}
use Rattle.stop_history.proofs.Longer.{born_stays, untouched}
use Rattle.stop_history.proofs.Standing.{shows_state}
use Rattle.stop_history.proofs.States.{state_within}
use Rattle.stop_table.specs.Entry.{AreLegal, Begins, Cell, Entry, GoesOn, cell_after, content_after, content_with}
use Rattle.stop_table.specs.Entry.{IsCarried, history_of, word_of}

-- ---- events

pub history_append : (a b : List Entry) → history_of (a ++ b) ≡ history_of a ++ history_of b
history_append [] b = refl
history_append (x ∷ a) b = ap (λ h. x.event ∷ h) (history_append a b)

pub legal_history : (rows : List Row) (h : List Entry) → AreLegal rows h → IsLegal rows (history_of h)
legal_history rows [] legal = tt
legal_history rows (x ∷ h) legal = (legal.0.0, legal_history rows h legal.1)

pub ranged_history : (rows : List Row) (h : List Entry) → AreLegal rows h → AreInRange (history_of h)
ranged_history rows [] legal = tt
ranged_history rows (x ∷ h) legal = (legal.0.1, ranged_history rows h legal.1)

pub legal_back : (rows : List Row) (more h : List Entry) → AreLegal rows (more ++ h) → AreLegal rows h
legal_back rows [] h legal = legal
legal_back rows (x ∷ more) h legal = legal_back rows more h legal.1

pub legal_append : (rows : List Row) (more h : List Entry) → AreLegal rows (more ++ h)
    → IsLegal rows (history_of more ++ history_of h)
legal_append rows more h legal = subst (IsLegal rows) (history_append more h) (legal_history rows (more ++ h) legal)

-- ---- going on

pub quiet_append : (actors : Actor → Bool) (a b : List Entry) → IsQuiet actors (history_of a)
    → IsQuiet actors (history_of b) → IsQuiet actors (history_of (a ++ b))
quiet_append actors [] b quiet_a quiet_b = quiet_b
quiet_append actors (x ∷ a) b quiet_a quiet_b = (quiet_a.0, quiet_append actors a b quiet_a.1 quiet_b)

pub quiet_later : (actors : Actor → Bool) (a b : List Entry) → IsQuiet actors (history_of (a ++ b))
    → IsQuiet actors (history_of a)
quiet_later actors [] b quiet = tt
quiet_later actors (x ∷ a) b quiet = (quiet.0, quiet_later actors a b quiet.1)

pub quiet_sooner : (actors : Actor → Bool) (a b : List Entry) → IsQuiet actors (history_of (a ++ b))
    → IsQuiet actors (history_of b)
quiet_sooner actors [] b quiet = quiet
quiet_sooner actors (x ∷ a) b quiet = quiet_sooner actors a b quiet.1

pub goes_on : (actors : Actor → Bool) (a b c : List Entry) → GoesOn actors a b → GoesOn actors b c → GoesOn actors a c
goes_on actors a b c first second = (
  second.0 ++ first.0,
  second.1 ∙ ap (λ h. second.0 ++ h) first.1 ∙ sym (append_assoc second.0 first.0 a),
  quiet_append actors second.0 first.0 second.2 first.2,
)

pub goes_nowhere : (actors : Actor → Bool) (h : List Entry) → GoesOn actors h h
goes_nowhere actors h = ([], refl, tt)

pub begins : (actors : Actor → Bool) (a b : List Entry) → GoesOn actors a b → Begins a b
begins actors a b on = (on.0, on.1)

pub begins_on : (a b c : List Entry) → Begins a b → Begins b c → Begins a c
begins_on a b c first second =
    (second.0 ++ first.0, second.1 ∙ ap (λ h. second.0 ++ h) first.1 ∙ sym (append_assoc second.0 first.0 a))

-- ---- contents

-- a row's events only become more
events_grow : (row : ℕ) (more h : List Entry)
    → length (events_of row (history_of h)) ≤ length (events_of row (history_of (more ++ h)))
events_grow row [] h = omega arith
events_grow row (x ∷ more) h =
    let before = events_grow row more h in
    elim (cases_eq (subject x.event) row) [
      | inl same ↦
          (let one : length (events_of row (history_of (x ∷ more ++ h)))
          ≡ length (x.event ∷ events_of row (history_of (more ++ h))) =
          ap length (own_events row x.event (history_of (more ++ h)) same) in omega arith)
      | inr other ↦
          (let one : length (events_of row (history_of (x ∷ more ++ h)))
          ≡ length (events_of row (history_of (more ++ h))) =
          ap length (other_events row x.event (history_of (more ++ h)) other) in omega arith)
    ]

-- where a row has no more events than it had, none of the new entries is its own
pub same_content : (rows : List Row) (row : ℕ) (more h : List Entry)
    → events_of row (history_of (more ++ h)) ≡ events_of row (history_of h)
    → content_after rows (more ++ h) row ≡ content_after rows h row
same_content rows row [] h same = refl
same_content rows row (x ∷ more) h same =
    let grew = events_grow row more h in
    elim (cases_eq (subject x.event) row) [
      | inl own ↦
          (let one : length (events_of row (history_of (x ∷ more ++ h)))
          ≡ length (x.event ∷ events_of row (history_of (more ++ h))) =
          ap length (own_events row x.event (history_of (more ++ h)) own) in
          let all : length (events_of row (history_of (x ∷ more ++ h))) ≡ length (events_of row (history_of h)) =
          ap length same in absurd (omega arith))
      | inr other ↦
          rw (ne_eqb _ _ other)
          (same_content rows row more h (sym (other_events row x.event (history_of (more ++ h)) other) ∙ same))
    ]

abbrev pub cell_from : List Event → Content → Cell
cell_from es content =
    record { phase = phase_in es; births = births_in es; number = number_in es; content = content }

pub same_cell : (rows : List Row) (row : ℕ) (more h : List Entry)
    → events_of row (history_of (more ++ h)) ≡ events_of row (history_of h)
    → cell_after rows (more ++ h) row ≡ cell_after rows h row
same_cell rows row more h same =
    ap (λ es. cell_from es (content_after rows (more ++ h) row)) same
    ∙ ap (cell_from (events_of row (history_of h))) (same_content rows row more h same)

-- a row that only silent actors could move is as it was
pub stays : (rows : List Row) (actors : Actor → Bool) (more h : List Entry) → AreLegal rows (more ++ h)
    → IsQuiet actors (history_of more)
    → (row : ℕ) → is_moved_by actors (mover_of row (cell_after rows h row).phase) ≡ true
    → cell_after rows (more ++ h) row ≡ cell_after rows h row
stays rows actors more h legal quiet row moved =
    same_cell rows row more h
    (ap (events_of row) (history_append more h)
    ∙ untouched rows actors (history_of more) (history_of h) (legal_append rows more h legal) quiet row moved)

pub stays_on : (rows : List Row) (actors : Actor → Bool) (seen h : List Entry) → AreLegal rows h → GoesOn actors seen h
    → (row : ℕ) → is_moved_by actors (mover_of row (cell_after rows seen row).phase) ≡ true
    → cell_after rows h row ≡ cell_after rows seen row
stays_on rows actors seen h legal on row moved =
    ap (λ k. cell_after rows k row) on.1
    ∙ stays rows actors on.0 seen (subst (AreLegal rows) on.1 legal) on.2 row moved

pub other_cell : (rows : List Row) (row : ℕ) (x : Entry) (h : List Entry) → row ≢ subject x.event
    → cell_after rows (x ∷ h) row ≡ cell_after rows h row
other_cell rows row x h other =
    same_cell rows row (x ∷ []) h (other_events row x.event (history_of h) (λ same. other (sym same)))

pub own_content : (rows : List Row) (x : Entry) (h : List Entry)
    → content_after rows (x ∷ h) (subject x.event)
    ≡ content_with x.event x.content (content_after rows h (subject x.event))
own_content rows x h = rw (eq-eqb (subject x.event) (subject x.event) refl)

-- ---- words and states

pub word_ranged : (rows : List Row) (h : List Entry) → IsRoster rows → AreLegal rows h
    → (taken : Bool) (row : ℕ) → row < length rows → IsWord (word_of taken (cell_after rows h row))
word_ranged rows h roster legal taken row within =
    legal_word rows (history_of h) roster (legal_history rows h legal) (ranged_history rows h legal) (λ r. taken) row within

pub shown_state : (rows : List Row) (h : List Entry) (row : ℕ) → row < length rows
    → state_after rows (history_of h) row
    ≡ shown (is_born rows (history_of h) row) (cell_after rows h row).number (cell_after rows h row).phase
shown_state rows h row within =
    state_within rows (history_of h) row within
    ∙ sym (shows_state (is_born rows (history_of h) row) (events_of row (history_of h)))

-- what a row's own entry leaves carries the tid of the row and the number of its last stop
own_number : (rows : List Row) (row : ℕ) (es : List Event) (e : Event) (carried before : Content) → subject e ≡ row
    → IsCarried rows before e carried
    → (before.number ≡ number_in es) × (before.tid ≡ (row_at rows row).tid)
    → ((content_with e carried before).number ≡ number_in (e ∷ es))
    × ((content_with e carried before).tid ≡ (row_at rows row).tid)
own_number rows row es (event.Publish at number stop) carried before own is was =
    (is.1, is.0 ∙ ap (λ r. (row_at rows r).tid) own)
own_number rows row es (event.Claim at number tracer) carried before own is was = was
own_number rows row es (event.Resume at number how tracer) carried before own is was =
    (is.number ∙ was.0, is.tid ∙ was.1)
own_number rows row es (event.Exit at death) carried before own is was = was

-- the content of a row is that of its tracee, with the number of its last stop
pub content_number : (rows : List Row) (h : List Entry) → AreLegal rows h → (row : ℕ)
    → ((content_after rows h row).number ≡ number_in (events_of row (history_of h)))
    × ((content_after rows h row).tid ≡ (row_at rows row).tid)
content_number rows [] legal row = (refl, refl)
content_number rows (x ∷ h) legal row =
    let before = content_number rows h legal.1 row in
    elim (cases_eq (subject x.event) row) [
      | inl own ↦
          rw (eq-eqb _ _ own)
          (own_number rows row (events_of row (history_of h)) x.event x.content (content_after rows h row) own
          (subst (λ r. IsCarried rows (content_after rows h r) x.event x.content) own legal.0.2) before)
      | inr other ↦ rw (ne_eqb _ _ other) before
    ]

-- the row of the newest entry
pub own_cell : (rows : List Row) (x : Entry) (h : List Entry) (row : ℕ) → subject x.event ≡ row
    → cell_after rows (x ∷ h) row
    ≡ cell_from (x.event ∷ events_of row (history_of h)) (content_with x.event x.content (content_after rows h row))
own_cell rows x h row own = rw (eq-eqb _ _ own) refl

pub born_on : (rows : List Row) (actors : Actor → Bool) (row : ℕ) (seen h : List Entry) → GoesOn actors seen h
    → is_born rows (history_of seen) row ≡ true → is_born rows (history_of h) row ≡ true
born_on rows actors row seen h on born =
    ap (λ x. is_born rows (history_of x) row) on.1 ∙ ap (λ x. is_born rows x row) (history_append on.0 seen)
    ∙ born_stays rows (history_of on.0) (history_of seen) row born
