-- Opening the cells for C: the roster of its rows, and the ends of new cells.
use Rattle.std.specs.Prelude.{◌≡◌, ◌≤◌, ◌<◌, ◌⊎◌, ◌∷◌, ◌++◌, [], ℕ, List, Option, Some, None, Result, Ok, Err}
use Rattle.std.specs.Prelude.{length, replicate, take}
use Rattle.stop_history.specs.Roster.{IsRoster, push_fault, row_at}
use Rattle.stop_history.specs.declared.limits.TheConstants.{MOST_ROWS, TRACERS}
use Rattle.stop_history.specs.declared.roster.Row.{Row}
use Rattle.stop_history.specs.declared.roster.RosterError.{RosterError}
use Rattle.atomic_table.specs.Seated.{TableId}
use Rattle.stop_table.specs.Opening.{AreTracees, AreTracers, new_tracee, new_tracer}
use Rattle.trace_calls.specs.Handle.{handle_of, tracer_of}
use Rattle.c_interface.specs.declared.error.Error.{Error}
use Rattle.c_interface.specs.declared.error.Error.TheVariants as error
use Rattle.c_interface.specs.declared.opening.CRow.{CRow}
use Rattle.c_interface.specs.declared.opening.OpenFault.{OpenFault}
use Rattle.c_interface.specs.declared.opening.OpenFault.TheVariants as fault
use Rattle.c_interface.specs.declared.opened.Opened.{Opened}
use Rattle.c_interface.specs.declared.hand.Hand.TheVariants as hand
use Rattle.c_interface.specs.declared.tracee_end.TraceeEnd.{TraceeEnd}
use Rattle.c_interface.specs.declared.tracer_end.TracerEnd.{TracerEnd}

-- ---- rosters

abbrev pub row_of_ids : CRow → Row
row_of_ids ids = record { tid = ids.tid; tgid = ids.tgid; pgid = ids.pgid; parent = ids.parent }

abbrev pub ids_of_row : Row → CRow
ids_of_row row = record { tid = row.tid; tgid = row.tgid; pgid = row.pgid; parent = row.parent }

-- the first row that cannot be added to those before it, which are a roster
pub record IsFaulty (rows : List Row) (at : ℕ) : Type 0 where
  pub within : at < length rows
  pub before : IsRoster (take at rows)
  pub fault : RosterError
  pub is_fault : push_fault (take at rows) (row_at rows at) ≡ Some fault

abbrev pub IsRosterOf : List Row → Result (List Row) OpenFault → Type 0
IsRosterOf rows (Ok roster) = roster ≡ rows
IsRosterOf rows (Err fault.TooMany) = MOST_ROWS < length rows
IsRosterOf rows (Err (fault.Row at)) = (length rows ≤ MOST_ROWS) × IsFaulty rows at
IsRosterOf rows (Err fault.Tracers) = ⊥
IsRosterOf rows (Err fault.NoMemory) = length rows ≤ MOST_ROWS

-- ---- new cells

-- an end for each row and for each tracer, all of one table, of new cells of these rows
pub record AreNewEnds (rows : List Row) (count : ℕ) (opened : Opened) : Type 0 where
  pub roster : opened.roster ≡ rows
  pub table : TableId
  pub tracees : length opened.tracees.items ≡ length rows
  pub of_rows : AreTracees table rows opened.tracees.items
  pub tracers : length opened.tracers.items ≡ count
  pub of_tracers : AreTracers table rows opened.tracers.items

abbrev pub IsOpening : List Row → (tracers : ℕ) → Result Opened OpenFault → Type 0
IsOpening rows tracers (Ok opened) = AreNewEnds rows tracers opened × (1 ≤ tracers) × (tracers ≤ TRACERS)
IsOpening rows tracers (Err fault.TooMany) = MOST_ROWS < length rows
IsOpening rows tracers (Err (fault.Row at)) = (length rows ≤ MOST_ROWS) × IsFaulty rows at
IsOpening rows tracers (Err fault.Tracers) = IsRoster rows × ((tracers ≡ 0) ⊎ (TRACERS < tracers))
IsOpening rows tracers (Err fault.NoMemory) = length rows ≤ MOST_ROWS

-- the end of a new row, which is not taken up
pub record IsNewTracee (rows : List Row) (row : ℕ) (end : TraceeEnd) : Type 0 where
  pub tracee : end.tracee ≡ new_tracee end.tracee.table_id rows row
  pub births : end.births ≡ 0
  pub rests : end.hand ≡ hand.AtRest

-- the end of a new tracer, which has claimed nothing
abbrev pub IsNewTracer : List Row → (number : ℕ) → TracerEnd → Type 0
IsNewTracer rows number end =
    end.calls ≡ handle_of (new_tracer end.calls.table_id rows number) (replicate (length rows) 0)
    (replicate (length rows) None)

-- the ends that are left are the same
pub record HasSameEnds (a b : Opened) : Type 0 where
  pub roster : b.roster ≡ a.roster
  pub tracees : b.tracees.items ≡ a.tracees.items
  pub tracers : b.tracers.items ≡ a.tracers.items

-- the last one that is left is given out
pub record GivesTracee (a b : Opened) (end : TraceeEnd) : Type 0 where
  pub last : a.tracees.items ≡ b.tracees.items ++ end.tracee ∷ []
  pub is_new : IsNewTracee a.roster (length b.tracees.items) end
  pub roster : b.roster ≡ a.roster
  pub tracers : b.tracers.items ≡ a.tracers.items

abbrev pub IsNextTracee : (a b : Opened) → Result (Option TraceeEnd) Error → Type 0
IsNextTracee a b (Ok (Some end)) = GivesTracee a b end
IsNextTracee a b (Ok None) = (a.tracees.items ≡ []) × HasSameEnds a b
IsNextTracee a b (Err refusal) = (refusal ≡ error.ENOMEM) × HasSameEnds a b

pub record GivesTracer (a b : Opened) (end : TracerEnd) : Type 0 where
  pub last : a.tracers.items ≡ b.tracers.items ++ tracer_of end.calls ∷ []
  pub is_new : IsNewTracer a.roster (length b.tracers.items) end
  pub roster : b.roster ≡ a.roster
  pub tracees : b.tracees.items ≡ a.tracees.items

abbrev pub IsNextTracer : (a b : Opened) → Result (Option TracerEnd) Error → Type 0
IsNextTracer a b (Ok (Some end)) = GivesTracer a b end
IsNextTracer a b (Ok None) = (a.tracers.items ≡ []) × HasSameEnds a b
IsNextTracer a b (Err refusal) = (refusal ≡ error.ENOMEM) × HasSameEnds a b
