-- A run on threads: who acts, and what each thread is handed and gives back.
use Rattle.std.specs.Prelude.{◌≡◌, ◌<◌, ◌≤◌, [], ℕ, Bool, true, false, List, Vec, length}
use Rattle.std.specs.List.{All, AllZip, list_any}
use Rattle.std.specs.Vec.{vec_capacity}
use Rattle.record_printer.specs.Piece.{Piece}
use Rattle.stop_history.specs.declared.actor.Actor.{Actor}
use Rattle.stop_history.specs.declared.actor.Actor.TheVariants.{Tracee, Tracer}
use Rattle.stop_history.specs.declared.limits.TheConstants.{TRACERS}
use Rattle.stop_history.specs.declared.roster.Row.{Row}
use Rattle.stop_table.specs.Tracee.{TraceeHandle}
use Rattle.stop_table.specs.Tracer.{TracerHandle, held_rows}
use Rattle.stop_table.specs.View.{View, actors_of}
use Rattle.trace_script.specs.StopTrace.{Position}
use Rattle.tracer_workers.specs.DrivenBy.{AreDrivenBy}
use Rattle.tracer_workers.specs.Plan.{Plan}
use Rattle.tracer_workers.specs.TraceeThread.{IsSameTracee, IsToStart}
use Rattle.tracer_workers.specs.WorkerThread.{AreOverForGood, HasServed}
use Rattle.tracer_workers.specs.declared.config.Config.{Config}
use Rattle.tracer_workers.specs.declared.threaded.ReturnedHandles.{ReturnedHandles}
use Rattle.tracer_workers.specs.declared.threaded.RunHandles.{RunHandles}

-- ---- who acts

-- the tracee of a row, or one of the tracers
abbrev pub IsActor : List Row → Actor → Type 0
IsActor rows (Tracee row) = row < length rows
IsActor rows (Tracer tracer) = tracer < TRACERS

-- for each actor one of the handles acts
abbrev pub ActForAll : List Row → List View → Type 0
ActForAll rows views = (actor : Actor) → IsActor rows actor → list_any (λ v. actors_of v actor) views ≡ true

-- ---- threads

-- a tracee's handle that has made no event, with the machine of its row before its first stop
abbrev pub CanRun : TraceeHandle → Position → Type 0
CanRun e p = (e.view.taken ≡ false) × ((plan : Plan) × IsToStart plan e p)

-- the same handle, once its thread has come to its end: its stops and its death are those of its script
pub record HasRun (a : TraceeHandle) (p : Position) (b : TraceeHandle) : Type 0 where
  pub same : IsSameTracee a b
  pub idle : b.view.taken ≡ false
  pub driven : (plan : Plan) → IsToStart plan a p → AreDrivenBy (actors_of b.view) plan b.view.seen

-- a tracer's handle of the table of these rows that has claimed nothing
abbrev pub CanWork : List Row → TracerHandle → Type 0
CanWork rows e = (rows ≡ e.view.roster) × (held_rows e.view ≡ [])

-- the same handle, once its worker's thread has come to its end, with the pieces that the worker has kept; one that has
-- kept them all has served until each row was unborn or reaped, for good
abbrev pub HasWorked : Config → TracerHandle → TracerHandle → List Piece → Bool → Type 0
HasWorked config a b pieces short =
    (b.table_id ≡ a.table_id) × HasServed config a.view b.view pieces short
    × (short ≡ false → AreOverForGood b.view.roster b.view.seen)

-- ---- all threads of a run

-- each tracee can run, and each tracer's worker can work
pub record CanBeHanded {Z : Type 0} (rows : List Row) (handed : RunHandles Z) : Type 0 where
  pub tracees : All (λ s. CanRun s.tracee s.machine) handed.scripted.items
  pub tracers : All (CanWork rows) handed.tracers.items

-- each tracee has run, and each tracer's worker has worked, in the order in which they were handed in
pub record AreGivenBack {Z : Type 0} (config : Config) (handed : RunHandles Z) (back : ReturnedHandles Z) : Type 0 where
  pub tracees : AllZip (λ s t. HasRun s.tracee s.machine t) handed.scripted.items back.tracees.items
  pub workers : AllZip (λ e w. HasWorked config e w.tracer w.kept.pieces.items w.kept.short) handed.tracers.items
      back.workers.items

-- an empty list that has room for this many
abbrev pub HasRoomFor : {X Z : Type 0} → (many : ℕ) → Vec X Z → Type 0
HasRoomFor many list = (list.items ≡ []) × (many ≤ vec_capacity list)
