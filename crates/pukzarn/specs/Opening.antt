-- Opening a board, or the cells that threads share, behind handles.
use Rattle.std.specs.Prelude.{◌≡◌, ◌≢◌, ◌⊎◌, ℕ, ℤ, pos, [], List, Some, Result, Ok, Err, length, slice_get}
use Rattle.atomic_table.specs.Seated.{TableId}
use Rattle.stop_board.specs.Board.{Held, StandsAfter}
use Rattle.stop_history.specs.declared.roster.Row.{Row}
use Rattle.c_interface.specs.Opening.{GivesTracee, GivesTracer, IsNewTracee, IsNewTracer, IsOpening, IsRosterOf}
use Rattle.c_interface.specs.declared.opened.Opened.{Opened}
use Rattle.c_interface.specs.declared.tracee_end.TraceeEnd.{TraceeEnd}
use Rattle.c_interface.specs.declared.tracer_end.TracerEnd.{TracerEnd}
use Rattle.c_interface.specs.declared.error.Error.TheVariants as error
use Rattle.c_interface.specs.declared.opening.OpenFault.{OpenFault}
use Rattle.c_interface.specs.declared.opening.OpenFault.TheVariants as fault
use Rattle.pukzarn.specs.Call.{Holds, HoldsOn, IsHandleClosed, negative}
use Rattle.pukzarn.specs.declared.handle_value.HandleValue.TheVariants as ends
use Rattle.pukzarn.specs.declared.handle.Handle.{Handle}

-- EINVAL with the place of a faulty row, which is written for no other fault, or ENOMEM
abbrev pub IsFaultInto : OpenFault → (before after : ℕ) → (result : ℤ) → Type 0
IsFaultInto (fault.Row at) before after result = (result ≡ negative error.EINVAL) × (after ≡ at)
IsFaultInto fault.TooMany before after result = (result ≡ negative error.EINVAL) × (after ≡ before)
IsFaultInto fault.Tracers before after result = (result ≡ negative error.EINVAL) × (after ≡ before)
IsFaultInto fault.NoMemory before after result = (result ≡ negative error.ENOMEM) × (after ≡ before)

-- the board of a roster, before any event
abbrev pub IsNewBoard : List Row → Held → Type 0
IsNewBoard rows board = (board.rows ≡ rows) × StandsAfter board []

-- what the opening of a closed handle leaves: a new board, or a fault, or no memory for the board
abbrev pub IsBoardMade : List Row → (b : Handle) → (before after : ℕ) → (result : ℤ) → Result (List Row) OpenFault
    → Type 0
IsBoardMade rows b before after result (Ok roster) =
    (after ≡ before) × (((result ≡ negative error.ENOMEM) × IsHandleClosed b)
    ⊎ ((result ≡ pos 0) × ((board : Held) × IsNewBoard rows board × Holds b (ends.Board board))))
IsBoardMade rows b before after result (Err fault) = IsFaultInto fault before after result × IsHandleClosed b

-- a handle that is open is EBUSY and stays as it is
pub record IsBoardOpening (rows : List Row) (a b : Handle) (before after : ℕ) (result : ℤ) : Type 0 where
  pub busy : (IsHandleClosed a → ⊥) → HoldsOn a b × (result ≡ negative error.EBUSY) × (after ≡ before)
  pub opened : IsHandleClosed a → (made : Result (List Row) OpenFault) × IsRosterOf rows made
      × IsBoardMade rows b before after result made

-- ---- cells

abbrev pub AreClosed : List Handle → Type 0
AreClosed handles = (at : ℕ) (x : Handle) → slice_get handles at ≡ Some x → IsHandleClosed x

-- a handle holds the new tracee of this row, or the new tracer of this number, of the cells of a table
pub record HoldsTracee (table : TableId) (rows : List Row) (row : ℕ) (x : Handle) : Type 0 where
  pub end : TraceeEnd
  pub held : Holds x (ends.Tracee end)
  pub is_new : IsNewTracee rows row end
  pub same_table : end.tracee.table_id ≡ table

pub record HoldsTracer (table : TableId) (rows : List Row) (number : ℕ) (x : Handle) : Type 0 where
  pub end : TracerEnd
  pub held : Holds x (ends.Tracer end)
  pub is_new : IsNewTracer rows number end
  pub same_table : end.calls.table_id ≡ table

-- each handle holds the new tracee of its row, or the new tracer of its number
abbrev pub AreOpenTracees : TableId → List Row → List Handle → Type 0
AreOpenTracees table rows handles =
    (row : ℕ) (x : Handle) → slice_get handles row ≡ Some x → HoldsTracee table rows row x

abbrev pub AreOpenTracers : TableId → List Row → List Handle → Type 0
AreOpenTracers table rows handles =
    (number : ℕ) (x : Handle) → slice_get handles number ≡ Some x → HoldsTracer table rows number x

-- the handles of tracees, and those of tracers
abbrev pub Both : Type 0
Both = List Handle × List Handle

-- each handle holds its end, and all ends are of one table
pub record AreAllOpen (rows : List Row) (b : Both) : Type 0 where
  pub table : TableId
  pub tracees : AreOpenTracees table rows b.0
  pub tracers : AreOpenTracers table rows b.1

-- all of them, or none for want of memory
abbrev pub AreAllOpened : List Row → (b : Both) → (result : ℤ) → Type 0
AreAllOpened rows b result =
    ((result ≡ pos 0) × AreAllOpen rows b) ⊎ ((result ≡ negative error.ENOMEM) × AreClosed b.0 × AreClosed b.1)

-- the last tracee that is left, or the last tracer, is in a handle
pub record PutsTracee (a b : Opened) (x : Handle) : Type 0 where
  pub end : TraceeEnd
  pub gives : GivesTracee a b end
  pub held : Holds x (ends.Tracee end)

pub record PutsTracer (a b : Opened) (x : Handle) : Type 0 where
  pub end : TracerEnd
  pub gives : GivesTracer a b end
  pub held : Holds x (ends.Tracer end)

-- new cells are behind all handles; or no handle is open: another number of tracees than of rows is EINVAL, and there may
-- be no memory
abbrev pub AreCellsMade : List Row → (a b : Both) → (before after : ℕ) → (result : ℤ) → Result Opened OpenFault → Type 0
AreCellsMade rows a b before after result (Ok opened) =
    (after ≡ before) × (((length a.0 ≡ length rows) × AreAllOpened rows b result)
    ⊎ ((length a.0 ≢ length rows) × (result ≡ negative error.EINVAL) × (b ≡ a)))
AreCellsMade rows a b before after result (Err fault) = IsFaultInto fault before after result × (b ≡ a)

-- where a handle is open, it is EBUSY, and all stay as they are
pub record IsCellsOpening (rows : List Row) (a b : Both) (before after : ℕ) (result : ℤ) : Type 0 where
  pub busy : (AreClosed a.0 × AreClosed a.1 → ⊥) → (b ≡ a) × (result ≡ negative error.EBUSY) × (after ≡ before)
  pub opened : AreClosed a.0 → AreClosed a.1 → (made : Result Opened OpenFault) × IsOpening rows (length a.1) made
      × AreCellsMade rows a b before after result made
