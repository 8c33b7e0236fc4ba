-- Points of a wait: those of one of its parts are points of the whole.
use Rattle.std.proofs.Common.{refl, ◌≡◌, ◌∷◌, [], ℕ, Bool, false, List, ◌∙◌, sym, ap, inl, inr, subst}
use Rattle.stop_history.specs.declared.state.State.{State}
use Rattle.stop_history.specs.declared.state.State.TheVariants as state
use Rattle.stop_history.specs.Event as event
use Rattle.stop_history.specs.State.{is_pending, is_waitable_for, state_after}
use Rattle.stop_table.specs.declared.shown.Shown.{Shown}
use Rattle.stop_table.specs.Entry.{Begins, Entry, bare, history_of}
use Rattle.stop_table.specs.Claiming.{GetsNothing}
use Rattle.stop_table.specs.Handle.{EndsWith, HasSteps, IsPoint, Looked}
use Rattle.stop_table.specs.Handle.{is_claimable, shown_of}
use Rattle.stop_table.specs.View.{View, a_look}
use Rattle.stop_table.proofs.Entries.{begins_on}
use Rattle.stop_table.proofs.Walking.{ends_from, goes_from, looked_on, lost_from, lost_on, point_from, step_on}
use Rattle.trace_calls.specs.Scan.{is_pending_shown}
use Rattle.trace_calls.specs.Waiting.{Claimed, ReportsStatus, SawState, Showed}

-- ---- what is shown

-- what is known of the state is known of what is shown, and the other way round
pub saw_as : (v w : View) (row : ℕ) (P Q : State → Type 0) → ((at : State) → P at → Q at) → SawState v w row P
    → SawState v w row Q
saw_as v w row P Q on s = record {
  point = s.point;
  sooner = s.sooner;
  later = s.later;
  step = s.step;
  state = on (state_after v.roster (history_of s.point) row) s.state;
}

-- an attempt that got nothing only looked, and saw its answer at a point of its own
pub looked_in_vain : (v w : View) (row : ℕ) (a : Shown) → GetsNothing v w row a → Looked v w
looked_in_vain v w row a nothing = elim nothing [ inl last ↦ last.0 | inr lost ↦ lost.0 ]

saw_nothing : (v w : View) (row : ℕ) (a : Shown) → GetsNothing v w row a → SawState v w row (λ at. a ≡ shown_of at)
saw_nothing v w row a nothing =
    elim nothing [
      | inl last ↦
          record {
            point = w.seen;
            sooner = last.0.grows.goes_on;
            later = ([], refl);
            step = inl last.2;
            state = last.3;
          }
      | inr lost ↦
          record {
            point = lost.1.point;
            sooner = lost.1.sooner;
            later = lost.1.later;
            step = inr lost.1.step;
            state = lost.1.shown;
          }
    ]

pub not_waitable : (deaths : Bool) (at : State) → is_claimable deaths (shown_of at) ≡ false
    → is_waitable_for deaths at ≡ false
not_waitable deaths state.Absent is = refl
not_waitable deaths state.Unborn is = refl
not_waitable deaths state.Running is = refl
not_waitable deaths (state.Stopped number status) is = is
not_waitable deaths (state.Claimed number tracer) is = refl
not_waitable deaths (state.Dead number status) is = is
not_waitable deaths state.Reaped is = refl

pub pending_shown : (at : State) → is_pending at ≡ is_pending_shown (shown_of at)
pending_shown state.Absent = refl
pending_shown state.Unborn = refl
pending_shown state.Running = refl
pending_shown (state.Stopped number status) = refl
pending_shown (state.Claimed number tracer) = refl
pending_shown (state.Dead number status) = refl
pending_shown state.Reaped = refl

-- a row that was not claimed
pub passed : (deaths pending : Bool) (v w : View) (row : ℕ) (a : Shown) → GetsNothing v w row a
    → is_claimable deaths a ≡ false → pending ≡ is_pending_shown a
    → SawState v w row (λ at. (is_waitable_for deaths at ≡ false) × (is_pending at ≡ pending))
passed deaths pending v w row a l free is =
    saw_as v w row (λ at. a ≡ shown_of at) (λ at. (is_waitable_for deaths at ≡ false) × (is_pending at ≡ pending))
    (λ at same. (
      not_waitable deaths at (ap (is_claimable deaths) (sym same) ∙ free),
      pending_shown at ∙ ap is_pending_shown (sym same) ∙ sym is,
    ))
    (saw_nothing v w row a l)

-- ---- parts of a call

-- a point of a later part is one of the whole
pub saw_from : (u v w : View) (row : ℕ) (P : State → Type 0) → Looked u v → SawState v w row P → SawState u w row P
saw_from u v w row P first s =
    let same = first.grows.same.roster in
    record {
      point = s.point;
      sooner = goes_from u v s.point first.grows.goes_on first.grows.same s.sooner;
      later = s.later;
      step = elim s.step [
        | inl seen ↦ inl (point_from u v w row s.point same first.grows.steps seen)
        | inr lost ↦ inr (lost_from u v w row s.point same first.grows.steps lost)
      ];
      state = subst (λ rows. P (state_after rows (history_of s.point) row)) same s.state;
    }

point_on : (u v w : View) (row : ℕ) (h : List Entry) → IsPoint u v row h → HasSteps v w → IsPoint u w row h
point_on u v w row h point later =
    elim point [
      | inl own ↦ inl (step_on u v w (a_look row h) own later)
      | inr parents ↦ inr (parents.0, (parents.1.0, step_on u v w (a_look parents.1.0 h) parents.1.1 later, parents.1.2))
    ]

-- a point stays one as the call goes on
pub saw_on : (u v w : View) (row : ℕ) (P : State → Type 0) → SawState u v row P → Begins v.seen w.seen → HasSteps v w
    → SawState u w row P
saw_on u v w row P s later steps = record {
  point = s.point;
  sooner = s.sooner;
  later = begins_on s.point v.seen w.seen s.later later;
  step = elim s.step [
    | inl seen ↦ inl (point_on u v w row s.point seen steps)
    | inr lost ↦ inr (lost_on u v w row s.point lost steps)
  ];
  state = s.state;
}

-- an event of the handle's own, too
pub begins_end : (v w : View) (before : List Entry) (x : Entry) → EndsWith v w before x → Begins v.seen w.seen
begins_end v w before x e =
    begins_on v.seen before w.seen (e.goes_on.0, e.goes_on.1) (x ∷ [], e.seen)

pub claimed_from : (deaths : Bool) (u v w : View) (row number status : ℕ) → Looked u v
    → Claimed deaths v w row number status → Claimed deaths u w row number status
claimed_from deaths u v w row number status first c =
    let same = first.grows.same in (
      c.0,
      subst (λ n. EndsWith u w c.0 (bare (event.Claim row number n))) same.number
          (ends_from u v w c.0 (bare (event.Claim row number v.number)) first c.1),
      subst (λ rows. ReportsStatus deaths number status (state_after rows (history_of c.0) row)) same.roster c.2,
    )

pub showed_from : (deaths : Bool) (u v w : View) (row number status : ℕ) → Looked u v
    → Showed deaths v w row number status → Showed deaths u w row number status
showed_from deaths u v w row number status first s =
    (looked_on u v w first s.0, saw_from u v w row (ReportsStatus deaths number status) first s.1)
