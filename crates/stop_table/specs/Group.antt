-- A thread group's leader exits last (ptrace(2), "Death under ptrace"): when the other rows of its group can act no more.
use Rattle.std.specs.Prelude.{◌≡◌, ◌≢◌, ◌<◌, ◌⊎◌, ℕ, true, List, Some, length, slice_index}
use Rattle.stop_history.specs.declared.roster.Row.{Row}
use Rattle.stop_history.specs.History.{IsSettled, holding_back}
use Rattle.stop_history.specs.Roster.{is_leader, parent_of, row_at}
use Rattle.stop_history.specs.State.{is_alive, is_ended, state_after}
use Rattle.stop_table.specs.Entry.{Begins, Entry, GoesOn, cell_after, history_of}
use Rattle.stop_table.specs.Handle.{IsStepOf, IsUnborn}
use Rattle.stop_table.specs.View.{View, actors_of, a_look}

-- a row of a leader's group other than the leader
abbrev pub IsBeside : List Row → (leader row : ℕ) → Type 0
IsBeside rows leader row =
    (is_leader (row_at rows leader) ≡ true) × (row ≢ leader)
    × ((row_at rows row).tgid ≡ (row_at rows leader).tgid)

-- among the rows below k, the leader's group is settled beside it, the leader aside
abbrev pub AreSettled : List Row → (leader k : ℕ) → List Entry → Type 0
AreSettled rows leader k h =
    (row : ℕ) → row < k → row ≢ leader → (row_at rows row).tgid ≡ (row_at rows leader).tgid
    → IsSettled rows (Some leader) (history_of h) row

-- a leader's whole group
abbrev pub IsGroupSettled : List Row → ℕ → List Entry → Type 0
IsGroupSettled rows leader h = is_leader (row_at rows leader) ≡ true → AreSettled rows leader (length rows) h

-- a row that has ended, or is unborn and has a parent
abbrev pub IsResting : List Row → ℕ → List Entry → Type 0
IsResting rows row h =
    (is_ended (state_after rows (history_of h) row) ≡ true)
    ⊎ (IsUnborn rows row h × ((parent : ℕ) × (parent_of rows row ≡ Some parent)))

-- at the call's last step, which was a look at its word, the row was alive
abbrev pub SawAlive : View → View → ℕ → Type 0
SawAlive v w row =
    IsStepOf v w (a_look row w.seen) × (is_alive (state_after v.roster (history_of w.seen) row) ≡ true)

-- how many children each row of the leader's group has, among the rows below k
abbrev pub AreCounted : List Row → (leader k : ℕ) → (births : List ℕ) → List Entry → Type 0
AreCounted rows leader k births h =
    (row : ℕ) → row < k → (row_at rows row).tgid ≡ (row_at rows leader).tgid
    → slice_index births row ≡ (cell_after rows h row).births

-- at a look of the call at the word of `other`, that row was the first alive one of the leader's group beside it
pub record SawHeldBack (v w : View) (row other : ℕ) : Type 0 where
  pub point : List Entry
  pub sooner : GoesOn (actors_of v) v.seen point
  pub later : Begins point w.seen
  pub step : IsStepOf v w (a_look other point)
  pub first : holding_back v.roster (state_after v.roster (history_of point)) row ≡ Some other
