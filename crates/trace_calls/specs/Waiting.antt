-- What a wait answers, from the view of its caller before it (v) to the view after it (w) (waitid(2), waitpid(2)).
use Rattle.std.specs.Prelude.{◌≡◌, ◌==◌, ◌⊎◌, ◌<◌, ◌≤◌, ◌+◌, ◌++◌, ℕ, Bool, true, false, List, length, map, sum}
use Rattle.std.specs.Prelude.{if◌then◌else◌}
use Rattle.std.specs.List.{range_with_len}
use Rattle.stop_history.specs.declared.roster.Row.{Row}
use Rattle.stop_history.specs.declared.state.State.{State}
use Rattle.stop_history.specs.declared.state.State.TheVariants as state
use Rattle.stop_history.specs.Event as event
use Rattle.stop_history.specs.History.{is_of_parent}
use Rattle.stop_history.specs.Over.{is_gone}
use Rattle.stop_history.specs.Roster.{parent_of, row_at}
use Rattle.stop_history.specs.State.{is_pending, is_waitable_for, state_after}
use Rattle.stop_table.specs.Entry.{AreLegal, Begins, Entry, GoesOn, bare, history_of}
use Rattle.stop_table.specs.Handle.{EndsWith, IsLost, IsPoint, Looked}
use Rattle.stop_table.specs.View.{View, actors_of, looks_at}
use Rattle.stop_history.specs.declared.wait_request.WaitRequest.{WaitRequest}
use Rattle.stop_history.specs.declared.selection.Selection.{Selection}
use Rattle.stop_history.specs.Selection.{IsSelected, has_parents, is_selected}

-- ---- states

-- a row that is waitable for the wait, with this raw status; the number is that of its last stop
abbrev pub ReportsStatus : (deaths : Bool) → (number status : ℕ) → State → Type 0
ReportsStatus deaths number status at =
    (at ≡ state.Stopped number status) ⊎ ((deaths ≡ true) × (at ≡ state.Dead number status))

-- ---- points

-- At a point of the call of its own a row was in a state of this kind: at a look of the call at the row's word (where
-- the row is unborn, at its parent's), or directly after the claim of it that the call lost to another.
pub record SawState (v w : View) (row : ℕ) (Kind : State → Type 0) : Type 0 where
  pub point : List Entry
  pub sooner : GoesOn (actors_of v) v.seen point
  pub later : Begins point w.seen
  pub step : IsPoint v w row point ⊎ IsLost v w row point
  pub state : Kind (state_after v.roster (history_of point) row)

abbrev pub WasPassed : Bool → View → View → ℕ → Type 0
WasPassed deaths v w row = SawState v w row (λ at. is_waitable_for deaths at ≡ false)

-- ---- a status

-- each selected row before it was passed at a point of its own
pub record IsFirst (request : WaitRequest) (v w : View) (row : ℕ) : Type 0 where
  pub selected : IsSelected v.roster request.selection row
  pub before : (other : ℕ) → other < row → IsSelected v.roster request.selection other
      → WasPassed request.deaths v w other

-- the row was claimed: the claim ends what is seen, and directly before it the row was waitable for the wait
abbrev pub Claimed : Bool → View → View → (row number status : ℕ) → Type 0
Claimed deaths v w row number status =
    (before : List Entry) × EndsWith v w before (bare (event.Claim row number v.number))
    × ReportsStatus deaths number status (state_after v.roster (history_of before) row)

-- the row was shown: the call only looked, and at one of its points the row was waitable for the wait
abbrev pub Showed : Bool → View → View → (row number status : ℕ) → Type 0
Showed deaths v w row number status = Looked v w × SawState v w row (ReportsStatus deaths number status)

-- WNOWAIT
abbrev pub Took : (keeps deaths : Bool) → View → View → (row number status : ℕ) → Type 0
Took true deaths v w row number status = Showed deaths v w row number status
Took false deaths v w row number status = Claimed deaths v w row number status

-- the status of the first row that had one
abbrev pub Found : WaitRequest → View → View → (row number status : ℕ) → Type 0
Found request v w row number status =
    IsFirst request v w row × Took request.keeps request.deaths v w row number status

-- ---- no status

-- nothing to report yet: each selected row was passed at a point of its own, and one of them was pending at one
pub record NothingYet (request : WaitRequest) (v w : View) : Type 0 where
  pub looked : Looked v w
  pub passed : (row : ℕ) → IsSelected v.roster request.selection row → WasPassed request.deaths v w row
  pub pends : (row : ℕ) × IsSelected v.roster request.selection row × SawState v w row (λ at. is_pending at ≡ true)

-- in every legal history that goes on from this one each selected row is gone
abbrev pub AreGoneForGood : List Row → Selection → (deaths : Bool) → List Entry → Type 0
AreGoneForGood rows selection deaths h =
    (more : List Entry) → AreLegal rows (more ++ h) → (row : ℕ) → IsSelected rows selection row
    → is_gone deaths (state_after rows (history_of (more ++ h)) row) ≡ true

-- no child to wait for (ECHILD): each selected row was gone at a point of its own, that is unborn, reaped, or dead and not
-- asked for. For all tracees, and for a process group, this is so for good.
pub record NoChild (request : WaitRequest) (v w : View) : Type 0 where
  pub looked : Looked v w
  pub gone : (row : ℕ) → IsSelected v.roster request.selection row
      → SawState v w row (λ at. is_gone request.deaths at ≡ true)
  pub final : has_parents request.selection ≡ true
      → AreGoneForGood v.roster request.selection request.deaths w.seen

-- ---- one try

-- how many looks at the word of `at` one attempt at a row takes: one if it is the row, one if it is the row's parent
unfoldable pub looks_for : List Row → (row at : ℕ) → ℕ
looks_for rows row at =
    (if row == at then 1 else 0) + (if is_of_parent at (parent_of rows row) then 1 else 0)

-- how many one attempt at each selected row below k takes
unfoldable pub looks_below : List Row → Selection → (k at : ℕ) → ℕ
looks_below rows selection k at =
    sum (map (λ row. if is_selected selection (row_at rows row) then looks_for rows row at else 0) (range_with_len 0 k))

-- the call tried each selected row below k once at most: it looked at no row's word more often than that takes
abbrev pub TriesBelow : WaitRequest → View → View → (k : ℕ) → Type 0
TriesBelow request v w k =
    (at : ℕ) → looks_at at w.observations ≤ looks_at at v.observations + looks_below v.roster request.selection k at

-- One try of a wait and no more (WNOHANG): each selected row was tried once at most.
abbrev pub IsOneTry : WaitRequest → View → View → Type 0
IsOneTry request v w = TriesBelow request v w (length v.roster)
