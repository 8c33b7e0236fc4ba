-- Whether a tracee may begin to run: once its parent has created it (ptrace(2), PTRACE_EVENT_FORK, PTRACE_EVENT_CLONE).
use Rattle.std.specs.Prelude.{◌≡◌, ◌++◌, ◌⊎◌, ℕ, true, false, List, Some, None}
use Rattle.stop_history.specs.declared.roster.Row.{Row}
use Rattle.stop_history.specs.Roster.{parent_of}
use Rattle.stop_history.specs.State.{is_alive, is_born, is_ended, state_after}
use Rattle.stop_table.specs.declared.start.Start.{Start}
use Rattle.stop_table.specs.declared.start.Start.TheVariants as start
use Rattle.stop_table.specs.Entry.{AreLegal, Begins, Entry, GoesOn, history_of}
use Rattle.stop_table.specs.Handle.{IsStepOf}
use Rattle.stop_table.specs.View.{View, actors_of, a_look}

-- the last born row on the path from a root down to the row
pub data IsLastBorn (rows : List Row) (h : List Entry) : (row born : ℕ) → Type 0 where
  itself : (row : ℕ) → is_born rows (history_of h) row ≡ true → IsLastBorn rows h row row
  above : (row parent born : ℕ) → is_born rows (history_of h) row ≡ false → parent_of rows row ≡ Some parent
      → IsLastBorn rows h parent born → IsLastBorn rows h row born

-- what one thread alone would be answered: born; or else by the last born row on its path, not yet where that may still
-- act, and never where it has ended
abbrev pub IsStartOf : List Row → List Entry → ℕ → Start → Type 0
IsStartOf rows h row start.Born = is_born rows (history_of h) row ≡ true
IsStartOf rows h row start.NotYet =
    (is_born rows (history_of h) row ≡ false)
    × ((born : ℕ) × IsLastBorn rows h row born × (is_alive (state_after rows (history_of h) born) ≡ true))
IsStartOf rows h row start.Never =
    (is_born rows (history_of h) row ≡ false)
    × ((born : ℕ) × IsLastBorn rows h row born × (is_ended (state_after rows (history_of h) born) ≡ true))

-- a row above another
pub data IsAncestor (rows : List Row) : (row ancestor : ℕ) → Type 0 where
  parent : (row ancestor : ℕ) → parent_of rows row ≡ Some ancestor → IsAncestor rows row ancestor
  further : (row parent ancestor : ℕ) → parent_of rows row ≡ Some parent → IsAncestor rows parent ancestor
      → IsAncestor rows row ancestor

-- a look of this call at the word of an ancestor; a root needs none, and its point is what was seen before the call
abbrev pub IsStartPoint : View → View → ℕ → List Entry → Type 0
IsStartPoint v w row h =
    ((ancestor : ℕ) × IsAncestor v.roster row ancestor × IsStepOf v w (a_look ancestor h))
    ⊎ ((parent_of v.roster row ≡ None) × (h ≡ v.seen))

-- the answer is that of one thread at a point of the call
pub record StartsAt (v w : View) (row : ℕ) (a : Start) : Type 0 where
  pub point : List Entry
  pub sooner : GoesOn (actors_of v) v.seen point
  pub later : Begins point w.seen
  pub step : IsStartPoint v w row point
  pub answers : IsStartOf v.roster point row a

-- what is answered for good: born, or never
abbrev pub IsFinal : List Row → List Entry → ℕ → Start → Type 0
IsFinal rows h row start.Born =
    (more : List Entry) → is_born rows (history_of (more ++ h)) row ≡ true
IsFinal rows h row start.Never =
    (more : List Entry) → AreLegal rows (more ++ h) → is_born rows (history_of (more ++ h)) row ≡ false
IsFinal rows h row start.NotYet = Unit {0}
