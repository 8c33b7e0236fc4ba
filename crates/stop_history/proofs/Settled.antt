-- A settled row stays settled as the history goes on without the row that it is settled beside.
use Rattle.std.proofs.Common.{refl, ◌≡◌, ◌≢◌, ◌<◌, ◌∷◌, ◌++◌, [], ℕ, Bool, true, false, ◌||◌, ◌⊎◌, List, Option, Some}
use Rattle.std.proofs.Common.{length, arith, ◌∙◌, sym, ap, inl, inr, ne_eqb, subst}
use Rattle.std.specs.List.{list_any}
use Rattle.std.proofs.lemmas.Bool.{cases_eq}
use Rattle.stop_history.specs.declared.roster.Row.{Row}
use Rattle.stop_history.specs.declared.state.State.TheVariants as state
use Rattle.stop_history.specs.Event as event
use Rattle.stop_history.specs.Event.{Event, History, events_of, subject}
use Rattle.stop_history.specs.Roster.{parent_of, row_at}
use Rattle.stop_history.specs.State.{claimed_state, is_birth, was_created, is_born, is_ended, is_waitable, number_in}
use Rattle.stop_history.specs.State.{state_after, state_in}
use Rattle.stop_history.specs.History.{Fits, IsLegal, IsSettled, IsSilent, ended, unborn_below, unborn_beside}
use Rattle.stop_history.proofs.Events.{own_events, other_events}
use Rattle.stop_history.proofs.States.{by_own_events, claim_is_none, present, state_within}

-- ---- who has ended

-- a death that is claimed is reaped
reaped : (born : Bool) (number tracer : ℕ) (es : List Event) → is_ended (state_in born es) ≡ true
    → is_waitable (state_in born es) ≡ true → is_ended (claimed_state number tracer es) ≡ true
reaped true number tracer [] over waits = cc
reaped false number tracer [] over waits = cc
reaped born number tracer (event.Publish row n stop ∷ es) over waits = cc
reaped born number tracer (event.Claim row n other ∷ es) over waits =
    let none = claim_is_none (number_in es) other es in cc
reaped born number tracer (event.Resume row n how other ∷ es) over waits = cc
reaped born number tracer (event.Exit row death ∷ es) over waits = refl

ended_by_own : (rows : List Row) (h : History) (e : Event) → Fits rows h e → subject e < length rows
    → is_ended (state_after rows h (subject e)) ≡ true
    → is_ended (state_in (is_born rows (e ∷ h) (subject e)) (e ∷ events_of (subject e) h)) ≡ true
ended_by_own rows h (event.Publish at number stop) fits within over =
    let clash : is_ended (state_after rows h at) ≡ false = ap is_ended fits.0 in cc
ended_by_own rows h (event.Claim at number tracer) fits within over =
    let now = state_within rows h at within in
    reaped (is_born rows h at) (number_in (events_of at h)) tracer (events_of at h) (ap is_ended (sym now) ∙ over)
    (ap is_waitable (sym now) ∙ fits.0)
ended_by_own rows h (event.Resume at number how tracer) fits within over =
    let clash : is_ended (state_after rows h at) ≡ false = ap is_ended fits in cc
ended_by_own rows h (event.Exit at death) fits within over =
    let clash : is_ended (state_after rows h at) ≡ false = ap is_ended fits.0 in cc

-- who has ended stays so
pub ended_stays : (rows : List Row) (h : History) (e : Event) (row : ℕ) → Fits rows h e
    → is_ended (state_after rows h row) ≡ true → is_ended (state_after rows (e ∷ h) row) ≡ true
ended_stays rows h e row fits over =
    let within : row < length rows = present rows h row
    (λ absent. let clash : is_ended state.Absent ≡ true = ap is_ended (sym absent) ∙ over in cc) in
    elim (cases_eq (subject e) row) [
      | inl same ↦
          let Over : ℕ → Type 0 = λ t. is_ended (state_after rows (e ∷ h) t) ≡ true in
          subst Over same (
          let there : subject e < length rows = omega (arith, same) in
          ap is_ended (state_within rows (e ∷ h) (subject e) there
          ∙ ap (state_in (is_born rows (e ∷ h) (subject e))) (own_events (subject e) e h refl))
          ∙ ended_by_own rows h e fits there (ap (λ t. is_ended (state_after rows h t)) same ∙ over))
      | inr other ↦
          ap is_ended (state_within rows (e ∷ h) row within
          ∙ ap (state_in (is_born rows (e ∷ h) row)) (other_events row e h other))
          ∙ by_own_events is_ended refl (is_born rows (e ∷ h) row) (is_born rows h row) (events_of row h)
          ∙ (ap is_ended (sym (state_within rows h row within)) ∙ over)
    ]

-- ---- who is unborn

claim_is_not_unborn : (number tracer : ℕ) (es : List Event) → claimed_state number tracer es ≢ state.Unborn
claim_is_not_unborn number tracer [] h = cc
claim_is_not_unborn number tracer (event.Publish row n stop ∷ es) h = cc
claim_is_not_unborn number tracer (event.Claim row n other ∷ es) h = cc
claim_is_not_unborn number tracer (event.Resume row n how other ∷ es) h = cc
claim_is_not_unborn number tracer (event.Exit row death ∷ es) h = cc

-- an unborn row has no event, and its parent has created no child of its tid
pub unborn_is : (born : Bool) (es : List Event) → state_in born es ≡ state.Unborn → (born ≡ false) × (es ≡ [])
unborn_is true [] h = cc
unborn_is false [] h = (refl, refl)
unborn_is born (event.Publish row number stop ∷ es) h = cc
unborn_is born (event.Claim row number tracer ∷ es) h =
    let none = claim_is_not_unborn (number_in es) tracer es in absurd (none h)
unborn_is born (event.Resume row number how tracer ∷ es) h = cc
unborn_is born (event.Exit row death ∷ es) h = cc

-- no event of an unborn row fits
pub no_event : (rows : List Row) (h : History) (e : Event) → Fits rows h e
    → state_after rows h (subject e) ≢ state.Unborn
no_event rows h (event.Publish at number stop) fits unborn =
    let clash : state.Unborn ≡ state.Running = sym unborn ∙ fits.0 in cc
no_event rows h (event.Claim at number tracer) fits unborn =
    let clash : false ≡ true = ap is_waitable (sym unborn) ∙ fits.0 in cc
no_event rows h (event.Resume at number how tracer) fits unborn =
    let clash : state.Unborn ≡ state.Claimed number tracer = sym unborn ∙ fits in cc
no_event rows h (event.Exit at death) fits unborn = let clash : state.Unborn ≡ state.Running = sym unborn ∙ fits.0 in cc

-- only a publish creates a child, and only one of its own row
creates_none : (rows : List Row) (h : History) (e : Event) (parent tid : ℕ) → Fits rows h e → (subject e ≢ parent)
    ⊎ (state_after rows h parent ≢ state.Running) → is_birth parent tid e ≡ false
creates_none rows h (event.Publish at number stop) parent tid fits (inl apart) = rw (ne_eqb at parent apart)
creates_none rows h (event.Publish at number stop) parent tid fits (inr resting) =
    let apart : at ≢ parent = λ same. resting (ap (state_after rows h) (sym same) ∙ fits.0) in
    rw (ne_eqb at parent apart)
creates_none rows h (event.Claim at number tracer) parent tid fits why = refl
creates_none rows h (event.Resume at number how tracer) parent tid fits why = refl
creates_none rows h (event.Exit at death) parent tid fits why = refl

-- who is unborn stays so as long as its parent does not publish
pub unborn_stays : (rows : List Row) (h : History) (e : Event) (row parent : ℕ) → Fits rows h e
    → state_after rows h row ≡ state.Unborn → parent_of rows row ≡ Some parent
    → (subject e ≢ parent) ⊎ (state_after rows h parent ≢ state.Running) → state_after rows (e ∷ h) row ≡ state.Unborn
unborn_stays rows h e row parent fits unborn of_parent why =
    let within : row < length rows = present rows h row
    (λ absent. let clash : state.Absent ≡ state.Unborn = sym absent ∙ unborn in cc) in
    let apart : subject e ≢ row = λ same. no_event rows h e fits (ap (state_after rows h) same ∙ unborn) in
    let was = unborn_is (is_born rows h row) (events_of row h) (sym (state_within rows h row within) ∙ unborn) in
    let not_created : list_any (is_birth parent (row_at rows row).tid) h
    ≡ false = sym (ap (λ o. was_created o (row_at rows row).tid h) of_parent) ∙ was.0 in
    let still : is_born rows (e ∷ h) row ≡ false =
    ap (λ o. was_created o (row_at rows row).tid (e ∷ h)) of_parent
    ∙ ap (λ b. b || list_any (is_birth parent (row_at rows row).tid) h)
    (creates_none rows h e parent (row_at rows row).tid fits why) ∙ not_created in
    state_within rows (e ∷ h) row within
    ∙ ap (state_in (is_born rows (e ∷ h) row)) (other_events row e h apart ∙ was.1)
    ∙ ap (λ b. state_in b []) still

-- ---- who is settled

pub settled_rests : (rows : List Row) (beside : Option ℕ) (h : History) (row : ℕ) → IsSettled rows beside h row
    → state_after rows h row ≢ state.Running
settled_rests rows beside h _ (ended row over) runs =
    let clash : is_ended state.Running ≡ true = ap is_ended (sym runs) ∙ over in cc
settled_rests rows beside h _ (unborn_beside row parent unborn of_parent is) runs =
    let clash : state.Unborn ≡ state.Running = sym unborn ∙ runs in cc
settled_rests rows beside h _ (unborn_below row parent unborn of_parent below) runs =
    let clash : state.Unborn ≡ state.Running = sym unborn ∙ runs in cc

settled_by_one : (rows : List Row) (beside : Option ℕ) (h : History) (e : Event) → Fits rows h e
    → beside ≢ Some (subject e)
    → (row : ℕ) → IsSettled rows beside h row → IsSettled rows beside (e ∷ h) row
settled_by_one rows beside h e fits apart _ (ended row over) = ended row (ended_stays rows h e row fits over)
settled_by_one rows beside h e fits apart _ (unborn_beside row parent unborn of_parent is) =
    unborn_beside row parent
    (unborn_stays rows h e row parent fits unborn of_parent (inl (λ same. apart (is ∙ ap Some (sym same))))) of_parent
    is
settled_by_one rows beside h e fits apart _ (unborn_below row parent unborn of_parent below) =
    unborn_below row parent
    (unborn_stays rows h e row parent fits unborn of_parent (inr (settled_rests rows beside h parent below)))
    of_parent
    (settled_by_one rows beside h e fits apart parent below)

pub settled_stays : (rows : List Row) (beside : Option ℕ) (more h : History) → IsLegal rows (more ++ h)
    → IsSilent beside more
    → (row : ℕ) → IsSettled rows beside h row → IsSettled rows beside (more ++ h) row
settled_stays rows beside [] h legal silent row settled = settled
settled_stays rows beside (e ∷ more) h legal silent row settled =
    settled_by_one rows beside (more ++ h) e legal.0 silent.0 row
    (settled_stays rows beside more h legal.1 silent.1 row settled)
