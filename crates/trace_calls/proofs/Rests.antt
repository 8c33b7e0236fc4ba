-- Rows that have nothing to report: what is neither waitable nor pending is gone, and what is gone may be so for good.
use Rattle.std.proofs.Common.{refl, ◌≡◌, ◌≢◌, ◌<◌, ◌+◌, not, ◌++◌, ◌∷◌, [], ℕ, Bool, true, false, List, length, ◌∙◌, sym, ap, inl, inr, subst}
use Rattle.std.proofs.Common.{arith}
use Rattle.std.proofs.lemmas.Bool.{cases_eq}
use Rattle.stop_history.specs.declared.roster.Row.{Row}
use Rattle.stop_history.specs.declared.state.State.{State}
use Rattle.stop_history.specs.declared.state.State.TheVariants as state
use Rattle.stop_history.specs.Event as event
use Rattle.stop_history.specs.Event.{Event, events_of}
use Rattle.stop_history.specs.Over.{IsOver, is_gone}
use Rattle.stop_history.specs.Roster.{IsRoster, row_at}
use Rattle.stop_history.specs.State.{claimed_state, is_born, is_pending, is_waitable_for, number_in, state_after, state_in}
use Rattle.stop_history.proofs.Over.{closed_over, over_is_gone, over_stays, selection_closed}
use Rattle.stop_history.proofs.States.{state_within}
use Rattle.stop_table.specs.Entry.{AreLegal, Begins, Entry, history_of}
use Rattle.stop_table.specs.View.{View}
use Rattle.stop_table.proofs.Entries.{legal_append, history_append, legal_back}
use Rattle.stop_history.specs.declared.selection.Selection.{Selection}
use Rattle.stop_history.specs.Selection.{IsSelected, has_parents, is_selected}
use Rattle.trace_calls.specs.Waiting.{AreGoneForGood, SawState}

-- ---- states

claimed_there : (number tracer : ℕ) (es : List Event) → claimed_state number tracer es ≢ state.Absent
claimed_there number tracer [] is = cc
claimed_there number tracer (event.Publish row n stop ∷ es) is = cc
claimed_there number tracer (event.Claim row n other ∷ es) is = cc
claimed_there number tracer (event.Resume row n how other ∷ es) is = cc
claimed_there number tracer (event.Exit row death ∷ es) is = cc

state_there : (born : Bool) (es : List Event) → state_in born es ≢ state.Absent
state_there true [] is = cc
state_there false [] is = cc
state_there born (event.Publish row number stop ∷ es) is = cc
state_there born (event.Claim row number tracer ∷ es) is = claimed_there (number_in es) tracer es is
state_there born (event.Resume row number how tracer ∷ es) is = cc
state_there born (event.Exit row death ∷ es) is = cc

-- what is neither waitable nor pending is gone
quiet_gone : (deaths : Bool) (at : State) → at ≢ state.Absent → is_waitable_for deaths at ≡ false
    → is_pending at ≡ false → is_gone deaths at ≡ true
quiet_gone deaths state.Absent there free quiet = absurd (there refl)
quiet_gone deaths state.Unborn there free quiet = refl
quiet_gone deaths state.Running there free quiet = cc
quiet_gone deaths (state.Stopped number status) there free quiet = cc
quiet_gone deaths (state.Claimed number tracer) there free quiet = cc
quiet_gone deaths (state.Dead number status) there free quiet = ap not free
quiet_gone deaths state.Reaped there free quiet = refl

pub saw_gone : (deaths : Bool) (v w : View) (row : ℕ) → row < length v.roster
    → SawState v w row (λ at. (is_waitable_for deaths at ≡ false) × (is_pending at ≡ false))
    → SawState v w row (λ at. is_gone deaths at ≡ true)
saw_gone deaths v w row within s = record {
  point = s.point;
  sooner = s.sooner;
  later = s.later;
  step = s.step;
  state = quiet_gone deaths (state_after v.roster (history_of s.point) row)
      (λ absent.
      state_there (is_born v.roster (history_of s.point) row) (events_of row (history_of s.point))
      (sym (state_within v.roster (history_of s.point) row within) ∙ absent))
      s.state.0 s.state.1;
}

-- ---- rows that are over

pub over_on : (rows : List Row) (deaths : Bool) (h later : List Entry) → AreLegal rows later → Begins h later
    → (row : ℕ) → IsOver rows deaths (history_of h) row → IsOver rows deaths (history_of later) row
over_on rows deaths h later legal on row over =
    subst (λ g. IsOver rows deaths g row) (sym (ap history_of on.1 ∙ history_append on.0 h))
    (over_stays rows deaths (history_of on.0) (history_of h)
    (legal_append rows on.0 h (subst (AreLegal rows) on.1 legal)) row over)

-- a row that is gone at a point is over from then on, where the selected rows before it were over before that point
pub over_next : (rows : List Row) → IsRoster rows → (selection : Selection) → has_parents selection ≡ true
    → (deaths : Bool) (k : ℕ) (h point later : List Entry) → AreLegal rows later → Begins h point → Begins point later
    → ((row : ℕ) → row < k → IsSelected rows selection row → IsOver rows deaths (history_of h) row)
    → IsSelected rows selection k → is_gone deaths (state_after rows (history_of point) k) ≡ true
    → (row : ℕ) → row < k + 1 → IsSelected rows selection row → IsOver rows deaths (history_of later) row
over_next rows roster selection parents deaths k h point later legal to_point to_later before selected gone row low is =
    let legal_point = legal_back rows to_later.0 point (subst (AreLegal rows) to_later.1 legal) in
    let at_point = λ (r : ℕ) (less : r < k) (chosen : is_selected selection (row_at rows r) ≡ true).
    let within = selected.0 in
    let there : r < length rows = omega arith in
    over_on rows deaths h point legal_point to_point r (before r less (there, chosen)) in
    elim (cases_eq row k) [
      | inl same ↦
          subst (λ r. IsOver rows deaths (history_of later) r) (sym same)
          (over_on rows deaths point later legal to_later k
          (closed_over rows roster (λ r. is_selected selection (row_at rows r)) (selection_closed rows roster selection parents) deaths
          (history_of point) k selected.0 selected.1 at_point gone))
      | inr other ↦
          let less : row < k = omega arith in
          over_on rows deaths point later legal to_later row (at_point row less is.1)
    ]

pub gone_for_good : (rows : List Row) (selection : Selection) (deaths : Bool) (h : List Entry)
    → ((row : ℕ) → IsSelected rows selection row → IsOver rows deaths (history_of h) row)
    → AreGoneForGood rows selection deaths h
gone_for_good rows selection deaths h over more legal row selected =
    over_is_gone rows deaths (history_of (more ++ h)) row
    (over_on rows deaths h (more ++ h) legal (more, refl) row (over row selected))
