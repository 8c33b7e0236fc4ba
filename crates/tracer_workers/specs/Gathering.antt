-- What is left of a run once its threads have come back: the handles of the cells, and the pieces of what was claimed.
use Rattle.std.specs.Prelude.{◌≡◌, ◌<◌, ◌≢◌, ◌⊎◌, ◌++◌, [], ℕ, Bool, true, false, List, None, All, length, map, reverse}
use Rattle.std.specs.List.{Contains}
use Rattle.atomic_table.specs.Seated.{TableId}
use Rattle.stop_history.specs.declared.actor.Actor.{Actor}
use Rattle.stop_history.specs.declared.roster.Row.{Row}
use Rattle.stop_history.specs.declared.state.State.TheVariants as state
use Rattle.stop_history.specs.State.{is_born, state_after}
use Rattle.stop_table.specs.declared.shown.Shown.{Shown}
use Rattle.stop_table.specs.declared.shown.Shown.TheVariants as shows
use Rattle.stop_table.specs.Entry.{AreLegal, Entry, GoesOn, history_of}
use Rattle.stop_table.specs.Tracee.{TraceeHandle}
use Rattle.stop_table.specs.Tracer.{TracerHandle, held_rows}
use Rattle.stop_table.specs.View.{View, actors_of}
use Rattle.record_printer.specs.FolderAnswers.{lost}
use Rattle.record_printer.specs.Piece.{Piece}
use Rattle.record_printer.specs.Represents.{AreTaken}
use Rattle.record_printer.specs.declared.call.show.Show.{Show}
use Rattle.record_printer.specs.declared.fold.error.FoldError.{FoldError}
use Rattle.record_printer.specs.declared.fold.error.FoldError.TheVariants as fold_error
use Rattle.tracer_workers.specs.Driven.{AreReaped}
use Rattle.tracer_workers.specs.HistoryPieces.{pieces_of}
use Rattle.tracer_workers.specs.declared.run_error.RunError.{RunError}
use Rattle.tracer_workers.specs.declared.run_error.RunError.TheVariants as run_error

-- ---- handles

-- a tracer's handle of the cells of these rows, which has claimed nothing
pub record IsFreeTracer (id : TableId) (rows : List Row) (e : TracerHandle) : Type 0 where
  pub table : e.table_id ≡ id
  pub roster : e.view.roster ≡ rows
  pub idle : held_rows e.view ≡ []

-- a tracee's handle of the same cells, which does not have its row taken up
pub record IsFreeTracee (id : TableId) (rows : List Row) (e : TraceeHandle) : Type 0 where
  pub table : e.table_id ≡ id
  pub roster : e.view.roster ≡ rows
  pub idle : e.view.taken ≡ false

-- what all of them know
abbrev pub views_of : List TracerHandle → List TraceeHandle → List View
views_of tracers tracees = map (λ e. e.view) tracers ++ map (λ e. e.view) tracees

-- a history begins with all that was seen, and of those who saw it has the events that they had seen, and no other
abbrev pub GoesOnFrom : List View → List Entry → Type 0
GoesOnFrom views h = All (λ v. GoesOn (actors_of v) v.seen h) views

-- what a handle has seen goes on in what another has seen, which acts for its actors too
pub record TakesIn (v u : View) : Type 0 where
  pub seen : GoesOn (actors_of v) v.seen u.seen
  pub acts : (actor : Actor) → actors_of v actor ≡ true → actors_of u actor ≡ true

-- ---- pieces

-- each piece is that of a stop or a death that was seen
abbrev pub AreSeen : Show → List Row → List View → List Piece → Type 0
AreSeen show rows views pieces =
    (piece : Piece) → Contains pieces piece → (v : View) × Contains views v × Contains (pieces_of show rows v.seen) piece

-- of the pieces, in the order in which they are added, none is a stranger's or there twice, and none is missing
pub record AreWhole (rows : List Row) (pieces : List Piece) : Type 0 where
  pub taken : AreTaken rows (reverse pieces)
  pub none_lost : lost rows (reverse pieces) ≡ None

-- ---- what is lost

-- a row that was born has not been reaped
abbrev pub HasUnreaped : List Row → List Entry → Type 0
HasUnreaped rows h =
    (row : ℕ) × (row < length rows) × (is_born rows (history_of h) row ≡ true)
    × (state_after rows (history_of h) row ≢ state.Reaped)

-- in a legal history that begins with all that was seen, a row that was born has not been reaped, or else the pieces
-- are not whole
pub record HasLostStop (rows : List Row) (views : List View) (pieces : List Piece) : Type 0 where
  pub history : List Entry
  pub legal : AreLegal rows history
  pub goes_on : GoesOnFrom views history
  pub lost_there : HasUnreaped rows history ⊎ ¬ AreWhole rows pieces

-- ---- what is all there

-- in a legal history that begins with all that was seen, each row that was born has been reaped
pub record IsAllReaped (rows : List Row) (views : List View) : Type 0 where
  pub history : List Entry
  pub legal : AreLegal rows history
  pub goes_on : GoesOnFrom views history
  pub reaped : AreReaped rows history

-- ---- looks at the end

-- a row that a look shows unborn or reaped
abbrev pub is_over : Shown → Bool
is_over shows.Unborn = true
is_over shows.Reaped = true
is_over shows.Running = false
is_over (shows.Stopped number status) = false
is_over (shows.Claimed number) = false
is_over (shows.Dead number status) = false

-- where all rows that were born were seen reaped, or else one was not at some point of the looks
abbrev pub HasLookedForUnreaped : View → View → Bool → Type 0
HasLookedForUnreaped v w true = AreReaped v.roster w.seen
HasLookedForUnreaped v w false =
    (point : List Entry) × AreLegal v.roster point × GoesOn (actors_of v) v.seen point × HasUnreaped v.roster point

-- ---- answers

-- a folder's refusal, as a run tells it: out of memory, or what it lacks or has in excess is lost
abbrev pub run_error_of : FoldError → RunError
run_error_of fold_error.NoMemory = run_error.NoMemory
run_error_of fold_error.Stranger = run_error.Lost
run_error_of fold_error.Twice = run_error.Lost
run_error_of (fold_error.Lost row number) = run_error.Lost
