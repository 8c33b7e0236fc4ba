-- Looks at all rows in the order of the roster: where each shows a row that is unborn or reaped, none acts any more, and
-- each row that was born has been reaped. A row that shows anything else was born, and is not reaped there.
use Rattle.std.proofs.Common.{refl, ◌≡◌, ◌≢◌, ◌<◌, ◌+◌, ℕ, true, false, List, length, ◌∙◌, sym, ap}
use Rattle.std.proofs.Common.{inl, inr, subst, arith}
use Rattle.std.proofs.lemmas.Bool.{cases_Bool, cases_eq}
use Rattle.stop_history.specs.declared.roster.Row.{Row}
use Rattle.stop_history.specs.declared.state.State.{State}
use Rattle.stop_history.specs.declared.state.State.TheVariants as state
use Rattle.stop_history.specs.Event.{events_of}
use Rattle.stop_history.specs.Over.{IsOver, is_gone}
use Rattle.stop_history.specs.Roster.{IsRoster}
use Rattle.stop_history.specs.State.{is_born, state_after, state_in}
use Rattle.stop_history.proofs.Longer.{unborn_is_silent}
use Rattle.stop_history.proofs.Over.{closed_over, over_is_gone, over_stays}
use Rattle.stop_history.proofs.Settled.{unborn_is}
use Rattle.stop_history.proofs.States.{state_within}
use Rattle.stop_table.specs.Entry.{AreLegal, Begins, Entry, history_of}
use Rattle.stop_table.specs.Handle.{shown_of}
use Rattle.stop_table.proofs.Entries.{history_append, legal_append, legal_back, legal_history}
use Rattle.tracer_workers.specs.Driven.{AreReaped}
use Rattle.tracer_workers.specs.Gathering.{HasUnreaped, is_over}
use Rattle.tracer_workers.proofs.RunEnd.{is_there}

-- ---- what a look shows

shown_gone : (at : State) → at ≢ state.Absent → is_over (shown_of at) ≡ true → is_gone true at ≡ true
shown_gone state.Absent there over = absurd (there refl)
shown_gone state.Unborn there over = refl
shown_gone state.Running there over = cc
shown_gone (state.Stopped number status) there over = cc
shown_gone (state.Claimed number tracer) there over = cc
shown_gone (state.Dead number status) there over = cc
shown_gone state.Reaped there over = refl

shown_alive : (at : State) → is_over (shown_of at) ≡ false → (at ≢ state.Unborn) × (at ≢ state.Reaped)
shown_alive at not_over = (
  λ unborn. let clash : true ≡ false = sym (ap (λ s. is_over (shown_of s)) unborn) ∙ not_over in cc,
  λ reaped. let clash : true ≡ false = sym (ap (λ s. is_over (shown_of s)) reaped) ∙ not_over in cc,
)

-- ---- rows that are over

over_on : (rows : List Row) (h later : List Entry) → AreLegal rows later → Begins h later → (row : ℕ)
    → IsOver rows true (history_of h) row → IsOver rows true (history_of later) row
over_on rows h later legal on row over =
    subst (λ g. IsOver rows true g row) (sym (ap history_of on.1 ∙ history_append on.0 h))
    (over_stays rows true (history_of on.0) (history_of h)
    (legal_append rows on.0 h (subst (AreLegal rows) on.1 legal)) row over)

-- a row that is gone at a point, before which the rows before it were over, is over from then on
pub over_next : (rows : List Row) → IsRoster rows → (k : ℕ) → k < length rows → (h point later : List Entry)
    → AreLegal rows later → Begins h point → Begins point later
    → ((row : ℕ) → row < k → IsOver rows true (history_of h) row)
    → is_over (shown_of (state_after rows (history_of point) k)) ≡ true
    → (row : ℕ) → row < k + 1 → IsOver rows true (history_of later) row
over_next rows roster k within h point later legal to_point to_later before over row low =
    let legal_point = legal_back rows to_later.0 point (subst (AreLegal rows) to_later.1 legal) in
    let at_point = λ (r : ℕ) (less : r < k). over_on rows h point legal_point to_point r (before r less) in
    let there = λ (absent : state_after rows (history_of point) k ≡ state.Absent).
    is_there {P = ⊥} (is_born rows (history_of point) k) (events_of k (history_of point))
    (sym (state_within rows (history_of point) k within) ∙ absent) in
    let gone = shown_gone (state_after rows (history_of point) k) there over in
    elim (cases_eq row k) [
      | inl same ↦
          subst (λ r. IsOver rows true (history_of later) r) (sym same)
          (over_on rows point later legal to_later k
          (closed_over rows roster (λ r. true) (λ r parent low is of_parent. refl) true (history_of point) k within refl
          (λ r less is. at_point r less) gone))
      | inr other ↦ over_on rows point later legal to_later row (at_point row (omega (arith, low, other)))
    ]

gone_reaped : (at : State) → is_gone true at ≡ true → at ≢ state.Unborn → at ≡ state.Reaped
gone_reaped state.Reaped gone born = refl
gone_reaped state.Unborn gone born = absurd (born refl)
gone_reaped state.Absent gone born = cc
gone_reaped state.Running gone born = cc
gone_reaped (state.Stopped number status) gone born = cc
gone_reaped (state.Claimed number tracer) gone born = cc
gone_reaped (state.Dead number status) gone born = cc

-- where each row is gone, each that was born has been reaped
pub all_gone_reaped : (rows : List Row) (h : List Entry)
    → ((row : ℕ) → row < length rows → is_gone true (state_after rows (history_of h) row) ≡ true) → AreReaped rows h
all_gone_reaped rows h gone row within born =
    gone_reaped (state_after rows (history_of h) row) (gone row within)
    (λ unborn.
    let none = (unborn_is (is_born rows (history_of h) row) (events_of row (history_of h))
    (sym (state_within rows (history_of h) row within) ∙ unborn)).0 in
    let clash : true ≡ false = sym born ∙ none in cc)

pub over_reaped : (rows : List Row) (h : List Entry) → ((row : ℕ) → row < length rows → IsOver rows true (history_of h) row)
    → AreReaped rows h
over_reaped rows h over =
    all_gone_reaped rows h (λ row within. over_is_gone rows true (history_of h) row (over row within))

-- ---- a row that is not over

pub unreaped : (rows : List Row) (h : List Entry) → AreLegal rows h → (row : ℕ) → row < length rows
    → is_over (shown_of (state_after rows (history_of h) row)) ≡ false → HasUnreaped rows h
unreaped rows h legal row within not_over =
    let alive = shown_alive (state_after rows (history_of h) row) not_over in
    elim (cases_Bool (is_born rows (history_of h) row)) [
      | inl born ↦ (row, within, born, alive.1)
      | inr unborn ↦
          (let silent = unborn_is_silent rows (history_of h) (legal_history rows h legal) row unborn in
          let is : state_after rows (history_of h) row ≡ state.Unborn =
          state_within rows (history_of h) row within
          ∙ ap (λ b. state_in b (events_of row (history_of h))) unborn ∙ ap (state_in false) silent in
          absurd (alive.0 is))
    ]
