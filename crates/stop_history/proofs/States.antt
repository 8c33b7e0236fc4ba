-- The state of a row after a history: whether the row is there, and runs on while others act.
use Rattle.std.proofs.Common.{refl, ◌≡◌, ◌≢◌, ◌<◌, ◌∷◌, [], ℕ, Bool, true, false, ◌||◌, ◌⊎◌, Some, None, Option, List}
use Rattle.std.proofs.Common.{length, ◌∙◌, sym, ap, inl, inr, cond, nat_lt, lt-ltb, le-ltb}
use Rattle.std.specs.List.{list_any}
use Rattle.std.proofs.lemmas.Bool.{cases_lt}
use Rattle.stop_history.specs.declared.roster.Row.{Row}
use Rattle.stop_history.specs.declared.state.State.{State}
use Rattle.stop_history.specs.declared.state.State.TheVariants as state
use Rattle.stop_history.specs.Event as event
use Rattle.stop_history.specs.Event.{Event, History, events_of, subject}
use Rattle.stop_history.specs.Roster.{parent_of, row_at}
use Rattle.stop_history.specs.State.{claimed_state, is_birth, was_created, is_born, is_waitable, state_after, state_in}
use Rattle.stop_history.specs.History.{Fits}
use Rattle.stop_history.proofs.Events.{other_events}

-- ---- a row that is there

pub state_within : (rows : List Row) (h : History) (row : ℕ) → row < length rows
    → state_after rows h row ≡ state_in (is_born rows h row) (events_of row h)
state_within rows h row within = rw (lt-ltb _ _ within)

pub past_or_within : (rows : List Row) (h : History) (row : ℕ) → (row < length rows)
    ⊎ (state_after rows h row ≡ state.Absent)
past_or_within rows h row =
    elim (cases_lt row (length rows)) [ inl within ↦ inl within | inr past ↦ inr (rw (le-ltb _ _ past)) ]

-- a row that has a state is there
pub present : (rows : List Row) (h : History) (row : ℕ) → state_after rows h row ≢ state.Absent → row < length rows
present rows h row there = elim (past_or_within rows h row) [ inl within ↦ within | inr past ↦ absurd (there past) ]

-- an event that fits is one of a row that is there
pub fits_within : (rows : List Row) (h : History) (e : Event) → Fits rows h e → subject e < length rows
fits_within rows h (event.Publish row number stop) fits =
    present rows h row (λ absent. let clash : state.Absent ≡ state.Running = sym absent ∙ fits.0 in cc)
fits_within rows h (event.Claim row number tracer) fits =
    present rows h row (λ absent. let clash : is_waitable state.Absent ≡ true = ap is_waitable (sym absent)
    ∙ fits.0 in cc)
fits_within rows h (event.Resume row number how tracer) fits =
    present rows h row (λ absent. let clash : state.Absent ≡ state.Claimed number tracer = sym absent ∙ fits in cc)
fits_within rows h (event.Exit row death) fits =
    present rows h row (λ absent. let clash : state.Absent ≡ state.Running = sym absent ∙ fits.0 in cc)

-- ---- what is told by a row's own events

-- what is the same of a running row and of an unborn one does not depend on the row's birth
pub by_own_events : {A : Type 0} (of : State → A) → of state.Running ≡ of state.Unborn → (born later : Bool)
    (es : List Event) → of (state_in born es) ≡ of (state_in later es)
by_own_events of same true true [] = refl
by_own_events of same true false [] = same
by_own_events of same false true [] = sym same
by_own_events of same false false [] = refl
by_own_events of same born later (event.Publish row number stop ∷ es) = refl
by_own_events of same born later (event.Claim row number tracer ∷ es) = refl
by_own_events of same born later (event.Resume row number how tracer ∷ es) = refl
by_own_events of same born later (event.Exit row death ∷ es) = refl

-- a claim leaves nothing to wait for
pub claim_is_none : (number tracer : ℕ) (es : List Event) → is_waitable (claimed_state number tracer es) ≡ false
claim_is_none number tracer [] = refl
claim_is_none number tracer (event.Publish row n stop ∷ es) = refl
claim_is_none number tracer (event.Claim row n other ∷ es) = refl
claim_is_none number tracer (event.Resume row n how other ∷ es) = refl
claim_is_none number tracer (event.Exit row death ∷ es) = refl

-- ---- a row that makes no event

runs_if_born : (born more : Bool) (es : List Event) → state_in born es ≡ state.Running
    → state_in (more || born) es ≡ state.Running
runs_if_born true true [] h = refl
runs_if_born true false [] h = refl
runs_if_born false more [] h = cc
runs_if_born born more (event.Publish row number stop ∷ es) h = h
runs_if_born born more (event.Claim row number tracer ∷ es) h = h
runs_if_born born more (event.Resume row number how tracer ∷ es) h = h
runs_if_born born more (event.Exit row death ∷ es) h = h

still_runs : (parent : Option ℕ) (tid : ℕ) (e : Event) (h : History) (es : List Event)
    → state_in (was_created parent tid h) es ≡ state.Running
    → state_in (was_created parent tid (e ∷ h)) es ≡ state.Running
still_runs None tid e h es runs = runs
still_runs (Some parent) tid e h es runs =
    runs_if_born (list_any (is_birth parent tid) h) (is_birth parent tid e) es runs

-- a running row runs on while others act
pub runs_on : (rows : List Row) (h : History) (e : Event) (row : ℕ) → row ≢ subject e
    → state_after rows h row ≡ state.Running → state_after rows (e ∷ h) row ≡ state.Running
runs_on rows h e row other runs =
    elim (cases_lt row (length rows)) [
      | inl within ↦
          let inside : nat_lt row (length rows) ≡ true = lt-ltb _ _ within in
          let ran : state_in (is_born rows h row) (events_of row h) ≡ state.Running =
          sym (ap (λ b. cond b (state_in (is_born rows h row) (events_of row h)) state.Absent) inside) ∙ runs in
          rw inside (ap (state_in (is_born rows (e ∷ h) row)) (other_events row e h (λ same. other (sym same)))
          ∙ still_runs (parent_of rows row) (row_at rows row).tid e h (events_of row h) ran)
      | inr past ↦ let absent : state.Absent
          ≡ state.Running = sym (ap (λ b. cond b (state_in (is_born rows h row) (events_of row h)) state.Absent)
          (le-ltb _ _ past)) ∙ runs in cc
    ]
