-- Rows that are over stay so, on which "no child is left to wait for" rests. A settled row makes no event but the claim
-- of its own death, so it never dies again; a row that is gone is settled where its parent is.
use Rattle.std.proofs.Common.{refl, ◌≡◌, ◌≢◌, ◌<◌, ◌∷◌, ◌++◌, [], ℕ, Bool, true, false, List, Option, Some, None}
use Rattle.std.proofs.Common.{length, ◌∙◌, sym, ap, eqb, inl, inr}
use Rattle.std.proofs.lemmas.Bool.{cases_eq}
use Rattle.stop_history.specs.Event as event
use Rattle.stop_history.specs.Event.{Event, History, events_of, subject}
use Rattle.stop_history.specs.History.{Fits, IsLegal, IsSettled, IsSilent, ended, unborn_below, unborn_beside}
use Rattle.stop_history.specs.Over.{IsClosed, IsOver, is_dead, is_gone}
use Rattle.stop_history.specs.Roster.{IsRoster, parent_of, row_at}
use Rattle.stop_history.specs.Selection.{has_parents, is_selected}
use Rattle.stop_history.specs.State.{claimed_state, was_created, is_born, is_ended, number_in, state_after, state_in}
use Rattle.stop_history.specs.declared.roster.Row.{Row}
use Rattle.stop_history.specs.declared.selection.Selection.{Selection}
use Rattle.stop_history.specs.declared.selection.Selection.TheVariants.{All, Tracee, Group}
use Rattle.stop_history.specs.declared.state.State.{State}
use Rattle.stop_history.specs.declared.state.State.TheVariants as state
use Rattle.stop_history.proofs.Events.{own_events, other_events}
use Rattle.stop_history.proofs.Rosters.{placed}
use Rattle.stop_history.proofs.Settled.{settled_rests, settled_stays, unborn_is}
use Rattle.stop_history.proofs.States.{by_own_events, past_or_within, state_within}

-- ---- process groups

pub groups_closed : (rows : List Row) → IsRoster rows → (pgid : ℕ)
    → IsClosed rows (λ row. eqb (row_at rows row).pgid pgid)
groups_closed rows roster pgid row parent within is of_parent =
    let child = ((placed rows roster row within).child parent of_parent).1 in
    ap (λ p. eqb p pgid) (sym child.process_group) ∙ is

-- all rows, and those of a process group
pub selection_closed : (rows : List Row) → IsRoster rows → (selection : Selection) → has_parents selection ≡ true
    → IsClosed rows (λ row. is_selected selection (row_at rows row))
selection_closed rows roster All is = λ row parent within selected of_parent. refl
selection_closed rows roster (Tracee tid) is = cc
selection_closed rows roster (Group pgid) is = groups_closed rows roster pgid

-- ---- a row that is gone is over where its parent is

-- an unborn row has a parent
unborn_has_parent : (rows : List Row) (h : History) (row : ℕ) → row < length rows
    → state_after rows h row ≡ state.Unborn
    → (parent : Option ℕ) → parent_of rows row ≡ parent → (p : ℕ) × (parent ≡ Some p)
unborn_has_parent rows h row within unborn (Some parent) is = (parent, refl)
unborn_has_parent rows h row within unborn None is =
    let born : is_born rows h row ≡ true = ap (λ o. was_created o (row_at rows row).tid h) is in
    let not_born : is_born rows h row
    ≡ false = (unborn_is (is_born rows h row) (events_of row h) (sym (state_within rows h row within) ∙ unborn)).0 in
    let clash : true ≡ false = sym born ∙ not_born in cc

over_by : (rows : List Row) (deaths : Bool) (h : History) (row : ℕ) (at : State) → state_after rows h row ≡ at
    → is_gone deaths at ≡ true
    → (at ≡ state.Unborn → IsSettled rows None h row) → IsOver rows deaths h row
over_by rows deaths h row state.Unborn is gone unborn = (unborn refl, λ asked. ap is_dead is)
over_by rows deaths h row state.Reaped is gone unborn = (ended row (ap is_ended is), λ asked. ap is_dead is)
over_by rows true h row (state.Dead number status) is gone unborn = cc
over_by rows false h row (state.Dead number status) is gone unborn = (ended row (ap is_ended is), λ asked. cc)
over_by rows deaths h row state.Absent is gone unborn = cc
over_by rows deaths h row state.Running is gone unborn = cc
over_by rows deaths h row (state.Stopped number status) is gone unborn = cc
over_by rows deaths h row (state.Claimed number tracer) is gone unborn = cc

pub closed_over : (rows : List Row) → IsRoster rows → (selected : ℕ → Bool) → IsClosed rows selected
    → (deaths : Bool) (h : History)
    → (row : ℕ) → row < length rows → selected row ≡ true
    → ((before : ℕ) → before < row → selected before ≡ true → IsOver rows deaths h before)
    → is_gone deaths (state_after rows h row) ≡ true → IsOver rows deaths h row
closed_over rows roster selected closed deaths h row within is before gone =
    over_by rows deaths h row (state_after rows h row) refl gone (λ unborn.
    let has = unborn_has_parent rows h row within unborn (parent_of rows row) refl in
    let earlier = ((placed rows roster row within).child has.0 has.1).0 in
    unborn_below row has.0 unborn has.1 (before has.0 earlier (closed row has.0 within is has.1)).0)

-- ---- what is over stays over

silent_beside_none : (more : History) → IsSilent None more
silent_beside_none [] = tt
silent_beside_none (e ∷ more) = ((λ same. cc), silent_beside_none more)

claim_is_not_dead : (number tracer : ℕ) (es : List Event) → is_dead (claimed_state number tracer es) ≡ false
claim_is_not_dead number tracer [] = refl
claim_is_not_dead number tracer (event.Publish row n stop ∷ es) = refl
claim_is_not_dead number tracer (event.Claim row n other ∷ es) = refl
claim_is_not_dead number tracer (event.Resume row n how other ∷ es) = refl
claim_is_not_dead number tracer (event.Exit row death ∷ es) = refl

-- only an exit makes a row dead, and it needs a running row
own_is_not_dead : (rows : List Row) (h : History) (e : Event) → Fits rows h e
    → state_after rows h (subject e) ≢ state.Running
    → (born : Bool) → is_dead (state_in born (e ∷ events_of (subject e) h)) ≡ false
own_is_not_dead rows h (event.Publish at number stop) fits rests born = refl
own_is_not_dead rows h (event.Claim at number tracer) fits rests born =
    claim_is_not_dead (number_in (events_of at h)) tracer (events_of at h)
own_is_not_dead rows h (event.Resume at number how tracer) fits rests born = refl
own_is_not_dead rows h (event.Exit at death) fits rests born = absurd (rests fits.0)

not_dead_by_one : (rows : List Row) (h : History) (e : Event) → Fits rows h e → (row : ℕ) → IsSettled rows None h row
    → is_dead (state_after rows h row) ≡ false → is_dead (state_after rows (e ∷ h) row) ≡ false
not_dead_by_one rows h e fits row settled alive =
    elim (past_or_within rows (e ∷ h) row) [
      | inr absent ↦ ap is_dead absent
      | inl within ↦ elim (cases_eq (subject e) row) [
        | inl same ↦
            let rests : state_after rows h (subject e) ≢ state.Running =
            λ runs. settled_rests rows None h row settled (ap (state_after rows h) (sym same) ∙ runs) in
            ap is_dead (state_within rows (e ∷ h) row within
            ∙ ap (state_in (is_born rows (e ∷ h) row)) (own_events row e h same)
            ∙ ap (λ r. state_in (is_born rows (e ∷ h) row) (e ∷ events_of r h)) (sym same))
            ∙ own_is_not_dead rows h e fits rests (is_born rows (e ∷ h) row)
        | inr other ↦
            ap is_dead (state_within rows (e ∷ h) row within
            ∙ ap (state_in (is_born rows (e ∷ h) row)) (other_events row e h other))
            ∙ by_own_events is_dead refl (is_born rows (e ∷ h) row) (is_born rows h row) (events_of row h)
            ∙ (ap is_dead (sym (state_within rows h row within)) ∙ alive)
      ]
    ]

not_dead_stays : (rows : List Row) (more h : History) → IsLegal rows (more ++ h) → (row : ℕ) → IsSettled rows None h row
    → is_dead (state_after rows h row) ≡ false → is_dead (state_after rows (more ++ h) row) ≡ false
not_dead_stays rows [] h legal row settled alive = alive
not_dead_stays rows (e ∷ more) h legal row settled alive =
    not_dead_by_one rows (more ++ h) e legal.0 row
    (settled_stays rows None more h legal.1 (silent_beside_none more) row settled)
    (not_dead_stays rows more h legal.1 row settled alive)

pub over_stays : (rows : List Row) (deaths : Bool) (more h : History) → IsLegal rows (more ++ h) → (row : ℕ)
    → IsOver rows deaths h row
    → IsOver rows deaths (more ++ h) row
over_stays rows deaths more h legal row over = (
  settled_stays rows None more h legal (silent_beside_none more) row over.0,
  λ asked. not_dead_stays rows more h legal row over.0 (over.1 asked),
)

ended_is_gone : (deaths : Bool) (at : State) → is_ended at ≡ true → (deaths ≡ true → is_dead at ≡ false)
    → is_gone deaths at ≡ true
ended_is_gone deaths state.Reaped is alive = refl
ended_is_gone true (state.Dead number status) is alive = let clash : true ≡ false = alive refl in cc
ended_is_gone false (state.Dead number status) is alive = refl
ended_is_gone deaths state.Absent is alive = cc
ended_is_gone deaths state.Unborn is alive = cc
ended_is_gone deaths state.Running is alive = cc
ended_is_gone deaths (state.Stopped number status) is alive = cc
ended_is_gone deaths (state.Claimed number tracer) is alive = cc

gone_by : (rows : List Row) (deaths : Bool) (h : History) (row : ℕ) → IsSettled rows None h row
    → (deaths ≡ true → is_dead (state_after rows h row) ≡ false) → is_gone deaths (state_after rows h row) ≡ true
gone_by rows deaths h _ (ended row over) alive = ended_is_gone deaths (state_after rows h row) over alive
gone_by rows deaths h _ (unborn_beside row parent unborn of_parent is) alive = ap (is_gone deaths) unborn
gone_by rows deaths h _ (unborn_below row parent unborn of_parent below) alive = ap (is_gone deaths) unborn

pub over_is_gone : (rows : List Row) (deaths : Bool) (h : History) (row : ℕ) → IsOver rows deaths h row
    → is_gone deaths (state_after rows h row) ≡ true
over_is_gone rows deaths h row over = gone_by rows deaths h row over.0 over.1
