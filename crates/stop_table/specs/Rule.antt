-- The rule of the cells: what holds between any two atomic steps.
use Rattle.std.specs.Prelude.{◌≡◌, ◌++◌, ◌∷◌, ◌<◌, ◌+◌, ◌⊎◌, ℕ, Bool, true, false, List, [], length, Option, Some, slice_index}
use mathlib.Core.Option as maybe
use mathlib.Core.Option.{none, some}
use lib.ListN.{get_elem?}
use Rattle.atomic_table.specs.Table.{State as Table}
use Rattle.trace_record.specs.Content.{Content}
use Rattle.stop_history.specs.declared.actor.Actor.{Actor}
use Rattle.stop_history.specs.declared.phase.Phase.{Phase}
use Rattle.stop_history.specs.declared.phase.Phase.TheVariants as phase
use Rattle.stop_history.specs.declared.roster.Row.{Row}
use Rattle.stop_history.specs.declared.state.State.TheVariants as state
use Rattle.stop_history.specs.Actor.{IsQuiet}
use Rattle.stop_history.specs.Layout.{raw_of}
use Rattle.stop_history.specs.Roster.{IsRoster}
use Rattle.stop_history.specs.State.{state_after}
use Rattle.stop_table.specs.Entry.{AreLegal, Cell, Entry, GoesOn, cell_after, history_of, word_of}
use Rattle.stop_table.specs.Place.{place}
use Rattle.stop_table.specs.View.{Past, View, actors_in, actors_of, is_among}

abbrev pub AllGoOn : List Past → List Entry → Type 0
AllGoOn [] h = Unit {0}
AllGoOn (p ∷ ps) h = GoesOn (actors_in p.tracees p.tracers) p.seen h × AllGoOn ps h

-- the history goes on from what v has seen, by events of other actors; of its rows v knows whether they are taken up
pub record IsViewOf (h : List Entry) (taken : ℕ → Bool) (v : View) : Type 0 where
  pub more : List Entry
  pub goes_on : h ≡ more ++ v.seen
  pub quiet : IsQuiet (actors_of v) (history_of more)
  pub knows : (row : ℕ) → is_among row v.tracees ≡ true → taken row ≡ v.taken
  pub told : AllGoOn v.told v.seen

-- what is in the slot of a row that is not taken up: the record of its last stop while it stands there, that of its
-- last resume while it is to run on, nothing while a tracer has it
abbrev pub Lies : Phase → Content → maybe.Option (Option Content) → Type 0
Lies phase.Fresh content slot = slot ≡ some (Some content)
Lies (phase.Resumed how) content slot = slot ≡ some (Some content)
Lies phase.Active content slot = Unit {0}
Lies (phase.Stopped status) content slot = slot ≡ some (Some content)
Lies (phase.Claimed tracer) content slot = slot ≡ none
Lies (phase.Dead status) content slot = Unit {0}
Lies phase.Reaped content slot = Unit {0}

-- the slot of a row that is taken up is with its tracee
abbrev pub IsHome : (taken : Bool) → Cell → maybe.Option (maybe.Option (Option Content)) → Type 0
IsHome true cell place = place ≡ some none
IsHome false cell place =
    (slot : maybe.Option (Option Content)) × (place ≡ some slot) × Lies cell.phase cell.content slot

-- the word and the slot of a row are those that the history leaves
pub record RowKept (roster : List Row) (s : Table (Option Content) View) (h : List Entry) (taken : ℕ → Bool) (row : ℕ) :
    Type 0 where
  pub word : slice_index s.words (place row) ≡ raw_of (word_of (taken row) (cell_after roster h row))
  pub home : IsHome (taken row) (cell_after roster h row) (get_elem? s.homes (place row))

-- There is one legal history. Each word is that of its row after it, and the further word behind them is 0. What a
-- view has seen is a beginning of the history, which goes on without an event of its actors; the history is one of
-- these beginnings or has no event. Each tracee has a view that acts for it, and no two views act for one actor.
pub record KeepsRule (roster : List Row) (s : Table (Option Content) View) : Type 0 where
  pub history : List Entry
  pub taken : ℕ → Bool
  pub placed : IsRoster roster
  pub legal : AreLegal roster history
  pub words_are : length s.words ≡ place (length roster) + 1
  pub further : slice_index s.words (place (length roster)) ≡ 0
  pub homes_are : length s.homes ≡ place (length roster)
  pub up : (row : ℕ) → taken row ≡ true → state_after roster (history_of history) row ≡ state.Running
  pub rows : (row : ℕ) → row < length roster → RowKept roster s history taken row
  pub follows : (i : ℕ) (v : View) → get_elem? s.views i ≡ some v → IsViewOf history taken v
  pub alone : (i j : ℕ) (v w : View) (a : Actor) → get_elem? s.views i ≡ some v → get_elem? s.views j ≡ some w
      → actors_of v a ≡ true → actors_of w a ≡ true → i ≡ j
  pub acted : (row : ℕ) → row < length roster
      → (i : ℕ) × (v : View) × (get_elem? s.views i ≡ some v) × (is_among row v.tracees ≡ true)
  pub seen : (history ≡ []) ⊎ ((i : ℕ) × (v : View) × (get_elem? s.views i ≡ some v) × (v.seen ≡ history))
