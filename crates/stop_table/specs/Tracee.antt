-- A tracee's handle.
use Rattle.std.specs.Prelude.{◌≡◌, ◌∷◌, ◌<◌, [], ℕ, Bool, true, false, List, Some, None, length}
use Rattle.atomic_table.specs.Seated.{TableId}
use Rattle.stop_history.specs.declared.actor.Actor.TheVariants as actor
use Rattle.stop_history.specs.declared.roster.Row.{Row}
use Rattle.stop_history.specs.Actor.{mover_of}
use Rattle.stop_history.specs.Change.{taken_up}
use Rattle.stop_history.specs.Roster.{IsRoster}
use Rattle.stop_history.specs.Word.{Word}
use Rattle.stop_table.specs.Entry.{AreLegal, cell_after, word_of}
use Rattle.stop_table.specs.Place.{place}
use Rattle.stop_table.specs.Steps.{Seated}
use Rattle.stop_table.specs.View.{View}

-- what a contract sees of it; it has its row taken up where its view says so
pub record TraceeHandle : Type 0 where
  pub table_id : TableId
  pub row : ℕ
  pub view : View

-- what a caller knows of every tracee's handle: it acts for its own row alone, and what it has seen is legal
pub record IsTraceeHandle (e : TraceeHandle) : Type 0 where
  pub low : e.row < length e.view.roster
  pub placed : IsRoster e.view.roster
  pub tracees : e.view.tracees ≡ e.row ∷ []
  pub tracers : e.view.tracers ≡ []
  pub legal : AreLegal e.view.roster e.view.seen

-- what is kept of it: while it has its row taken up, the slot is out with it, empty, and `word` is what the row's word
-- was before
pub record IsTracee (rows : List Row) (me : Seated) (row : ℕ) (word : Word) (holds : Bool) : Type 0 where
  pub low : row < length rows
  pub roster_is : me.0.roster ≡ rows
  pub placed : IsRoster rows
  pub tracees : me.0.tracees ≡ row ∷ []
  pub tracers : me.0.tracers ≡ []
  pub taken : me.0.taken ≡ holds
  pub legal : AreLegal rows me.0.seen
  pub holding : holds ≡ true → (me.1 ≡ (place row, None) ∷ [])
      × (mover_of row (cell_after rows me.0.seen row).phase ≡ Some (actor.Tracee row))
      × (taken_up word ≡ word_of true (cell_after rows me.0.seen row))
  pub idle : holds ≡ false → me.1 ≡ []
