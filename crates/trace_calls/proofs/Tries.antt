-- A scan tries each selected row once.
use Rattle.std.proofs.Common.{refl, ◌≡◌, ◌≤◌, ◌+◌, ◌-◌, ◌==◌, ◌∙◌, ℕ, Bool, zero, suc, true, List, length, ap, sym, inl, inr, subst}
use Rattle.std.proofs.Common.{arith, eq-eqb, zero-add}
use Rattle.std.specs.Prelude.{if◌then◌else◌}
use Rattle.std.proofs.lemmas.List.FromFn.{sum_by-map-range_with_len_more}
use Rattle.stop_history.specs.declared.roster.Row.{Row}
use Rattle.stop_history.specs.History.{is_of_parent}
use Rattle.stop_history.specs.Roster.{parent_of, row_at}
use Rattle.stop_table.specs.Handle.{TriesOnce}
use Rattle.stop_table.specs.View.{View, looks_at}
use Rattle.stop_history.specs.declared.wait_request.WaitRequest.{WaitRequest}
use Rattle.trace_calls.specs.declared.scan.Try.{Try}
use Rattle.stop_history.specs.declared.selection.Selection.{Selection}
use Rattle.trace_calls.specs.Scan.{IsTurn}
use Rattle.stop_history.specs.Selection.{is_selected}
use Rattle.trace_calls.specs.Waiting.{IsOneTry, TriesBelow, looks_below, looks_for}

taken_if : (b : Bool) (n : ℕ) → b ≡ true → (if b then n else 0) ≡ n
taken_if b n is = ap (λ x. if x then n else 0) is

-- the looks of one attempt
tries_looks : (v w : View) (row : ℕ) → TriesOnce v w row → (at : ℕ)
    → looks_at at w.observations ≤ looks_at at v.observations + looks_for v.roster row at
unfolding looks_for
tries_looks v w row once at =
    elim (once.looks at) [
      | inl same ↦ omega (arith, same)
      | inr up ↦
          elim up.0 [
            | inl own ↦
                let one = taken_if (row == at) 1 (eq-eqb row at (sym own)) in omega (arith, one, up.1)
            | inr parents ↦
                let one = taken_if (is_of_parent at (parent_of v.roster row)) 1
                (ap (is_of_parent at) parents ∙ eq-eqb at at refl) in
                omega (arith, one, up.1)
          ]
    ]

-- the looks that one more row takes
looks_more : (rows : List Row) (selection : Selection) (k at : ℕ) → looks_below rows selection (k + 1) at
    ≡ looks_below rows selection k at + (if is_selected selection (row_at rows k) then looks_for rows k at else 0)
unfolding looks_below
looks_more rows selection k at =
    sum_by-map-range_with_len_more (λ n. n)
    (λ row. if is_selected selection (row_at rows row) then looks_for rows row at else 0) 0 k k (zero-add k)

-- a row was tried once, if it is selected, and otherwise not looked at
pub tried_on : {A : Type 0} (request : WaitRequest) (u v w : View) (k : ℕ) (turn : Try A) → v.roster ≡ u.roster
    → TriesBelow request u v k → IsTurn request v w k turn → TriesOnce v w k → TriesBelow request u w (k + 1)
tried_on {A} request u v w k turn same before told once at =
    let earlier = before at in
    let more = looks_more u.roster request.selection k at in
    elim told [
      | inl tried ↦
          let selected : is_selected request.selection (row_at u.roster k) ≡ true =
          subst (λ rows. is_selected request.selection (row_at rows k) ≡ true) same tried.0.1 in
          let here : (if is_selected request.selection (row_at u.roster k) then looks_for u.roster k at else 0)
          ≡ looks_for u.roster k at = ap (λ b. if b then looks_for u.roster k at else 0) selected in
          let own =
          subst (λ rows. looks_at at w.observations ≤ looks_at at v.observations + looks_for rows k at) same
          (tries_looks v w k once at) in
          omega arith
      | inr skips ↦
          let none : looks_at at w.observations ≡ looks_at at v.observations =
          ap (λ (x : View). looks_at at x.observations) skips.1 in
          omega arith
    ]

-- the looks of the rows below k are among those of all
looks_within : (rows : List Row) (selection : Selection) (k more at : ℕ)
    → looks_below rows selection k at ≤ looks_below rows selection (k + more) at
looks_within rows selection k zero at =
    let same : k ≡ k + 0 = omega arith in
    let least : looks_below rows selection k at ≤ looks_below rows selection k at = omega arith in
    subst (λ n. looks_below rows selection k at ≤ looks_below rows selection n at) same least
looks_within rows selection k (suc more) at =
    let one = looks_more rows selection (k + more) at in
    let others = looks_within rows selection k more at in
    let step : looks_below rows selection k at ≤ looks_below rows selection (k + more + 1) at = omega arith in
    let same : k + more + 1 ≡ k + suc more = omega arith in
    subst (λ n. looks_below rows selection k at ≤ looks_below rows selection n at) same step

pub tried_all : (request : WaitRequest) (u w : View) (k : ℕ) → k ≤ length u.roster → TriesBelow request u w k
    → IsOneTry request u w
tried_all request u w k low tried at =
    let mine = tried at in
    let all : k + (length u.roster - k) ≡ length u.roster = omega arith in
    let within : looks_below u.roster request.selection k at
    ≤ looks_below u.roster request.selection (length u.roster) at =
    subst (λ n. looks_below u.roster request.selection k at ≤ looks_below u.roster request.selection n at) all
    (looks_within u.roster request.selection k (length u.roster - k) at) in
    omega arith
