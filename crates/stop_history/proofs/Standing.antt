-- Words that stand at a history: what they show, and how they go on with an event.
use Rattle.std.proofs.Common.{refl, ◌≡◌, ◌<◌, ◌∷◌, [], ℕ, Bool, true, false, Some, None, Option, List, length, arith}
use Rattle.std.proofs.Common.{◌∙◌, sym, ap, inl, inr, cond, nat_lt, lt-ltb, le-ltb}
use Rattle.std.proofs.lemmas.Bool.{cases_lt}
use Rattle.std.proofs.lemmas.Option.{get_or_from_slice_get}
use Rattle.stop_history.specs.declared.roster.Row.{Row}
use Rattle.stop_history.specs.declared.state.State.TheVariants as state
use Rattle.stop_history.specs.Word.{Word}
use Rattle.stop_history.specs.Event as event
use Rattle.stop_history.specs.Event.{Event, History, events_of, subject}
use Rattle.stop_history.specs.Roster.{IsRoster, parent_of, rank_of, row_at}
use Rattle.stop_history.specs.State.{was_created, is_born, state_after, state_in, claimed_state, number_in}
use Rattle.stop_history.specs.History.{births_after}
use Rattle.stop_history.specs.Word.{shows_created, opening, phase_in, claimed_phase, raised, shown, state_by}
use Rattle.stop_history.specs.Word.{word_after, word_at}
use Rattle.stop_history.specs.Standing.{AreAt}
use Rattle.stop_history.proofs.Births.{born_by_rank}
use Rattle.stop_history.proofs.Rosters.{parent_of-Some}

-- the phase that a claim leaves shows the state that it leaves
shows_claimed : (born : Bool) (number tracer : ℕ) (es : List Event)
    → shown born number (claimed_phase tracer es) ≡ claimed_state number tracer es
shows_claimed born number tracer [] = refl
shows_claimed born number tracer (event.Publish row n stop ∷ es) = refl
shows_claimed born number tracer (event.Claim row n other ∷ es) = refl
shows_claimed born number tracer (event.Resume row n how other ∷ es) = refl
shows_claimed born number tracer (event.Exit row death ∷ es) = refl

-- the phase that a row's events leave shows the state that they leave
pub shows_state : (born : Bool) (es : List Event) → shown born (number_in es) (phase_in es) ≡ state_in born es
shows_state born [] = refl
shows_state born (event.Publish row number stop ∷ es) = refl
shows_state born (event.Claim row number tracer ∷ es) = shows_claimed born (number_in es) tracer es
shows_state born (event.Resume row number how tracer ∷ es) = refl
shows_state born (event.Exit row death ∷ es) = refl

-- each row's word is the one that the history leaves
pub held_word : (rows : List Row) (words : List Word) (taken : ℕ → Bool) (h : History) → AreAt rows words taken h
    → length words ≡ length rows → (row : ℕ) → row < length rows → word_at words row ≡ word_after taken h row
held_word rows words taken h at each row within = get_or_from_slice_get words row _ opening (at.held row (omega arith))

-- whether a row is born, by the words and by the history
pub held_created : (rows : List Row) (words : List Word) (taken : ℕ → Bool) (h : History) → AreAt rows words taken h
    → length words ≡ length rows → IsRoster rows
    → (row : ℕ) → row < length rows → (parent : Option ℕ) → parent_of rows row ≡ parent
    → shows_created rows words row parent ≡ was_created parent (row_at rows row).tid h
held_created rows words taken h at each roster row within None of_parent = refl
held_created rows words taken h at each roster row within (Some parent) of_parent =
    let known = parent_of-Some rows roster row parent within of_parent in
    let births : (word_at words parent).births
    ≡ births_after h parent = ap (λ (w : Word). w.births)
    (held_word rows words taken h at each parent (omega arith)) in
    ap (nat_lt (rank_of rows row)) births ∙ sym (born_by_rank rows roster h at.legal row parent within of_parent)

pub shows_taken : (taken born : Bool) (es : List Event) → (taken ≡ true → state_in born es ≡ state.Running)
    → shown born (number_in es) (raised taken (phase_in es)) ≡ state_in born es
shows_taken true born es up = sym (up refl)
shows_taken false born es up = shows_state born es

-- the state that the words show of a row is its state after the history
pub held_state : (rows : List Row) (words : List Word) (taken : ℕ → Bool) (h : History) → AreAt rows words taken h
    → length words ≡ length rows → IsRoster rows
    → (row : ℕ) → state_by rows words row ≡ state_after rows h row
held_state rows words taken h at each roster row =
    elim (cases_lt row (length rows)) [
      | inl within ↦
          let inside : nat_lt row (length rows) ≡ true = lt-ltb _ _ within in
          let word = held_word rows words taken h at each row within in
          let born = held_created rows words taken h at each roster row within (parent_of rows row) refl in
          rw inside (
          ap (λ (w : Word). shown (shows_created rows words row (parent_of rows row)) w.number w.phase) word
          ∙ ap (λ b. shown b (number_in (events_of row h)) (raised (taken row) (phase_in (events_of row h)))) born
          ∙ shows_taken (taken row) (is_born rows h row) (events_of row h)
          (λ up. sym (ap (λ b. cond b (state_in (is_born rows h row) (events_of row h)) state.Absent) inside)
          ∙ at.up row up))
      | inr past ↦ rw (le-ltb _ _ past)
    ]
