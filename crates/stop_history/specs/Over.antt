-- Rows that are over: they can act no more, and no wait will ever report them (waitid(2), ECHILD).
use Rattle.std.specs.Prelude.{◌≡◌, ◌<◌, ℕ, Bool, true, false, not, List, length, Some, None}
use Rattle.stop_history.specs.Event.{History}
use Rattle.stop_history.specs.History.{IsSettled}
use Rattle.stop_history.specs.Roster.{parent_of}
use Rattle.stop_history.specs.State.{state_after}
use Rattle.stop_history.specs.declared.roster.Row.{Row}
use Rattle.stop_history.specs.declared.state.State.{State}
use Rattle.stop_history.specs.declared.state.State.TheVariants as state

-- a row that has ended, and whose death nobody has claimed
abbrev pub is_dead : State → Bool
is_dead (state.Dead number status) = true
is_dead other = false

-- no child to wait for: a row that is unborn or reaped, or dead where deaths are not asked for (WEXITED)
abbrev pub is_gone : (deaths : Bool) → State → Bool
is_gone deaths state.Unborn = true
is_gone deaths state.Reaped = true
is_gone deaths (state.Dead number status) = not deaths
is_gone deaths other = false

-- a set of rows that has with each row its parent
abbrev pub IsClosed : List Row → (ℕ → Bool) → Type 0
IsClosed rows selected =
    (row parent : ℕ) → row < length rows → selected row ≡ true → parent_of rows row ≡ Some parent
    → selected parent ≡ true

-- a row that can act no more and, where deaths are asked for, is not dead
abbrev pub IsOver : List Row → (deaths : Bool) → History → ℕ → Type 0
IsOver rows deaths h row = IsSettled rows None h row × (deaths ≡ true → is_dead (state_after rows h row) ≡ false)
