-- A scan, row by row.
use Rattle.std.proofs.Common.{refl, ◌≡◌, ◌<◌, ◌≤◌, ◌+◌, ◌||◌, ℕ, Bool, true, false, List, Some, length, ◌∙◌, sym, ap, inl, inr}
use Rattle.std.proofs.Common.{arith, eq-eqb, eqb-true, subst}
use Rattle.std.proofs.lemmas.Bool.{cases_eq}
use Rattle.trace_record.specs.Death.{death_status}
use Rattle.trace_record.specs.Stop.{stop_status}
use Rattle.trace_record.specs.declared.death.Death.{Death}
use Rattle.stop_history.specs.declared.state.State.{State}
use Rattle.stop_history.specs.Event as event
use Rattle.stop_history.specs.Over.{is_gone}
use Rattle.stop_history.specs.declared.roster.Row.{Row}
use Rattle.stop_history.specs.Roster.{IsRoster, row_at, row_of}
use Rattle.stop_history.proofs.Rosters.{row_of-tid}
use Rattle.stop_history.specs.State.{is_pending, is_waitable_for, state_after}
use Rattle.stop_table.specs.declared.claim.Claim.{Claim}
use Rattle.stop_table.specs.Entry.{AreLegal, Begins, bare, content_after, history_of}
use Rattle.stop_table.specs.Handle.{HasSteps, IsHolding, Looked}
use Rattle.stop_table.specs.View.{View}
use Rattle.stop_table.proofs.Walking.{begins_of, legal_after, looked_on, stands_still}
use Rattle.stop_history.specs.declared.wait_request.WaitRequest.{WaitRequest}
use Rattle.trace_calls.specs.declared.scan.Finding.TheVariants as finding
use Rattle.stop_history.specs.declared.selection.Selection.TheVariants.{Tracee}
use Rattle.trace_calls.specs.declared.scan.Try.TheVariants as tried
use Rattle.trace_calls.specs.Scan.{IsFinding, IsTried, IsTurn, Scanned}
use Rattle.stop_history.specs.Selection.{IsOnly, IsSelected, has_parents}
use Rattle.trace_calls.specs.Waiting.{Found, NoChild, NothingYet}
use Rattle.trace_calls.specs.Waiting.{Claimed, IsFirst, SawState, Took, WasPassed}
use Rattle.trace_calls.proofs.Points.{begins_end, claimed_from, saw_as, saw_from, saw_on, showed_from}
use Rattle.trace_calls.proofs.Rests.{gone_for_good, over_next, saw_gone}

-- before the only row that is selected, none is
pub scan_only : (request : WaitRequest) (v : View) (row : ℕ) → AreLegal v.roster v.seen
    → IsOnly v.roster request.selection row → Scanned request v v row false
scan_only request v row legal only = record {
  looked = stands_still v legal;
  passed = λ other low selected. absurd (below other low selected);
  pends = λ is. cc;
  gone = λ is other low selected. absurd (below other low selected);
  over = λ is parents other low selected. absurd (below other low selected);
}
  where
    below : (other : ℕ) → other < row → IsSelected v.roster request.selection other → ⊥
    below other low selected = let same = only.alone other selected in omega (arith, low, same)

-- ---- a row that was passed

both_false : (before more : Bool) → (before || more) ≡ false → (before ≡ false) × (more ≡ false)
both_false false false is = (refl, refl)
both_false false true is = cc
both_false true more is = cc

or_nothing : (before : Bool) → (before || false) ≡ before
or_nothing false = refl
or_nothing true = refl

module _ (request : WaitRequest) (u v w : View) (k : ℕ) (before : Bool) (roster : IsRoster u.roster)
    (s : Scanned request u v k before) where
  same : v.roster ≡ u.roster
  same = s.looked.grows.same.roster

  on_from : (P : State → Type 0) → Looked v w → (row : ℕ) → SawState u v row P → SawState u w row P
  on_from P l row saw = saw_on u v w row P saw (begins_of v w l.grows) l.grows.steps

  -- its own point, as one of the whole
  own_point : (P : State → Type 0) → SawState v w k P → SawState u w k P
  own_point P saw = saw_from u v w k P s.looked saw

  abbrev Quiet : Bool → State → Type 0
  Quiet more at = (is_waitable_for request.deaths at ≡ false) × (is_pending at ≡ more)

  pends_on : (earlier more : Bool) → (earlier ≡ true → before ≡ true) → Looked v w
      → IsSelected u.roster request.selection k → SawState u w k (Quiet more) → (earlier || more) ≡ true
      → (row : ℕ) × IsSelected u.roster request.selection row × SawState u w row (λ at. is_pending at ≡ true)
  pends_on true more told l selected mine is =
      let p = s.pends (told refl) in
      (p.0, p.1, on_from (λ at. is_pending at ≡ true) l p.0 p.2)
  pends_on false true told l selected mine is =
      (k, selected, saw_as u w k (Quiet true) (λ at. is_pending at ≡ true) (λ at t. t.1) mine)
  pends_on false false told l selected mine is = cc

  gone_now : (more : Bool) → more ≡ false → IsSelected u.roster request.selection k → SawState v w k (Quiet more)
      → SawState v w k (λ at. is_gone request.deaths at ≡ true)
  gone_now more quiet selected point =
      saw_gone request.deaths v w k (subst (λ rows. k < length rows) (sym same) selected.0)
      (saw_as v w k (Quiet more) (Quiet false) (λ at t. (t.0, t.1 ∙ quiet)) point)

  selected_on : (more : Bool) → IsSelected u.roster request.selection k → Looked v w → SawState v w k (Quiet more)
      → Scanned request u w (k + 1) (before || more)
  selected_on more selected l point =
      let whole = looked_on u v w s.looked l in
      let mine = own_point (Quiet more) point in
      record {
        looked = whole;
        passed = λ row low is. elim (cases_eq row k) [
          | inl at ↦
              subst (WasPassed request.deaths u w) (sym at)
              (saw_as u w k (Quiet more) (λ a. is_waitable_for request.deaths a ≡ false) (λ a t. t.0) mine)
          | inr other ↦
              let less : row < k = omega arith in
              on_from (λ a. is_waitable_for request.deaths a ≡ false) l row (s.passed row less is)
        ];
        pends = pends_on before more (λ is. is) l selected mine;
        gone = λ none row low is.
            (let quiet = both_false before more none in
            elim (cases_eq row k) [
              | inl at ↦
                  subst (λ r. SawState u w r (λ a. is_gone request.deaths a ≡ true)) (sym at)
                  (own_point (λ a. is_gone request.deaths a ≡ true) (gone_now more quiet.1 selected point))
              | inr other ↦
                  let less : row < k = omega arith in
                  on_from (λ a. is_gone request.deaths a ≡ true) l row (s.gone quiet.0 row less is)
            ]);
        over = λ none parents.
            (let quiet = both_false before more none in
            let g = gone_now more quiet.1 selected point in
            over_next u.roster roster request.selection parents request.deaths k v.seen g.point w.seen
            (legal_after u w whole) (g.sooner.0, g.sooner.1) g.later (s.over quiet.0 parents) selected
            (subst (λ rows. is_gone request.deaths (state_after rows (history_of g.point) k) ≡ true) same g.state));
      }

  skipped : (IsSelected u.roster request.selection k → ⊥) → Scanned request u v (k + 1) before
  skipped not = record {
    looked = s.looked;
    passed = λ row low is. s.passed row (below row low is) is;
    pends = s.pends;
    gone = λ none row low is. s.gone none row (below row low is) is;
    over = λ none parents row low is. s.over none parents row (below row low is) is;
  }
    where
      below : (row : ℕ) → row < k + 1 → IsSelected u.roster request.selection row → row < k
      below row low is =
          elim (cases_eq row k) [
            | inl at ↦ absurd (not (subst (IsSelected u.roster request.selection) at is))
            | inr other ↦ omega arith
          ]

  here : IsSelected v.roster request.selection k → IsSelected u.roster request.selection k
  here is = subst (λ rows. IsSelected rows request.selection k) same is

  pub first_here : IsSelected u.roster request.selection k → Begins v.seen w.seen → HasSteps v w
      → IsFirst request u w k
  first_here selected later steps = record {
    selected = selected;
    before = λ row low is.
        saw_on u v w row (λ a. is_waitable_for request.deaths a ≡ false) (s.passed row low is) later steps;
  }

  pub scan_on : {A : Type 0} (more : Bool) → IsTurn {A = A} request v w k (tried.Passes more)
      → Scanned request u w (k + 1) (before || more)
  scan_on {A} more told =
      elim told [
        | inl tried ↦ selected_on more (here tried.0) tried.1.0 tried.1.1
        | inr skips ↦
            let none : more ≡ false = cc skips.2 in
            subst (λ b. Scanned request u w (k + 1) (before || b)) (sym none)
            (subst (λ b. Scanned request u w (k + 1) b) (sym (or_nothing before))
            (subst (λ x. Scanned request u x (k + 1) before) (sym skips.1)
            (skipped (λ is. skips.0 (subst (λ rows. IsSelected rows request.selection k) (sym same) is)))))
      ]

  -- ---- a row that has a status

  claims_first : (row number status : ℕ) → row ≡ k → request.keeps ≡ false → IsSelected v.roster request.selection k
      → Claimed request.deaths v w k number status → Found request u w row number status
  claims_first row number status at keeps selected claimed =
      subst (λ r. Found request u w r number status) (sym at) (
        first_here (here selected) (begins_end v w claimed.0 (bare (event.Claim k number v.number)) claimed.1)
            claimed.1.steps,
        subst (λ b. Took b request.deaths u w k number status) (sym keeps)
            (claimed_from request.deaths u v w k number status s.looked claimed),
      )

  pub found_stop : {A : Type 0} (claim : Claim A) → IsTurn request v w k (tried.Stop claim)
      → IsFinding request u w (finding.Stop claim)
  found_stop {A} claim told =
      elim told [
        | inl t ↦ (
          t.1.0,
          claims_first claim.row claim.stop.number (stop_status claim.stop.stop) t.1.3 t.1.0 t.0 t.1.1,
          subst (λ r. IsHolding w r claim.word claim.stop) (sym t.1.3) t.1.2,
          subst (λ r. claim.stop ≡ content_after w.roster w.seen r) (sym t.1.3) t.1.4,
        )
        | inr skips ↦ cc skips.2
      ]

  pub found_death : {A : Type 0} (death : Death) (number : ℕ) → IsTurn {A = A} request v w k (tried.Ended death number)
      → IsFinding {A = A} request u w (finding.Ended k death number)
  found_death {A} death number told =
      elim told [
        | inl t ↦ (t.1.0, claims_first k number (death_status death) refl t.1.0 t.0 t.1.1, t.1.2, t.1.3)
        | inr skips ↦ cc skips.2
      ]

  pub found_shown : {A : Type 0} (number status : ℕ) → IsTurn {A = A} request v w k (tried.Shows number status)
      → IsFinding {A = A} request u w (finding.Shows k number status)
  found_shown {A} number status told =
      elim told [
        | inl t ↦ (
          t.1.0,
          (
            first_here (here t.0) (begins_of v w t.1.1.0.grows) t.1.1.0.grows.steps,
            subst (λ b. Took b request.deaths u w k number status) (sym t.1.0)
                (showed_from request.deaths u v w k number status s.looked t.1.1),
          ),
        )
        | inr skips ↦ cc skips.2
      ]

-- ---- the end of the scan

pub found_none : (request : WaitRequest) (u v : View) (k : ℕ) (before : Bool) → Scanned request u v k before
    → length u.roster ≤ k → before ≡ false → NoChild request u v
found_none request u v k before s long is = record {
  looked = s.looked;
  gone = λ row selected. let within = selected.0 in s.gone is row (omega arith) selected;
  final = λ parents. gone_for_good u.roster request.selection request.deaths v.seen
      (λ row selected. let within = selected.0 in s.over is parents row (omega arith) selected);
}

-- ---- a scan of one row

module _ (A : Type 0) (request : WaitRequest) (v w : View) (row : ℕ) (roster : IsRoster v.roster)
    (legal : AreLegal v.roster v.seen) (only : IsOnly v.roster request.selection row) where
  one_scanned : (more : Bool) → IsTried {A = A} request v w row (tried.Passes more) → Scanned request v w (row + 1) more
  one_scanned more told =
      scan_on request v v w row false roster (scan_only request v row legal only) {A = A} more (inl (only.selected, told))

  below_next : (other : ℕ) → IsSelected v.roster request.selection other → other < row + 1
  below_next other selected = let same = only.alone other selected in omega (arith, same)

  pub one_pending : (more : Bool) → more ≡ true → IsTried {A = A} request v w row (tried.Passes more)
      → NothingYet request v w
  one_pending more is told =
      let s = one_scanned more told in
      record {
        looked = s.looked;
        passed = λ other selected. s.passed other (below_next other selected) selected;
        pends = s.pends is;
      }

  pub one_gone : (more : Bool) → more ≡ false → has_parents request.selection ≡ false
      → IsTried {A = A} request v w row (tried.Passes more) → NoChild request v w
  one_gone more is alone told =
      let s = one_scanned more told in
      record {
        looked = s.looked;
        gone = λ other selected. s.gone is other (below_next other selected) selected;
        final = λ has. (let clash : true ≡ false = sym has ∙ alone in cc);
      }

-- a wait for the tracee of a row speaks of that row alone, since no other has its thread id
pub only_row : (rows : List Row) → IsRoster rows → (row : ℕ) → row < length rows
    → IsOnly rows (Tracee (row_at rows row).tid) row
only_row rows roster row within = record {
  selected = (within, eq-eqb (row_at rows row).tid (row_at rows row).tid refl);
  alone = λ other is.
      (let same : (row_at rows other).tid ≡ (row_at rows row).tid = eqb-true _ _ is.1 in
      let both : Some other ≡ Some row =
      sym (row_of-tid rows roster other is.0) ∙ ap (row_of rows) same ∙ row_of-tid rows roster row within in
      cc);
}
