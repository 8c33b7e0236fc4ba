-- What a wait answers its caller (waitid(2), waitpid(2)), from the handle before it (a) to the handle after it (b).
use Rattle.std.specs.Prelude.{◌≡◌, ℕ, List, Option, Some, None, Result, Ok, Err, if◌then◌else◌, slice_set}
use Rattle.trace_options.specs.declared.errno.Errno.{Errno}
use Rattle.trace_options.specs.declared.errno.Errno.TheVariants as errno
use Rattle.trace_status.specs.WaitStatus.{Encodes, pid_of}
use Rattle.trace_status.specs.declared.wait_status.WaitStatus.{WaitStatus}
use Rattle.trace_status.specs.declared.wait_status.WaitStatus.TheVariants.{StillAlive}
use Rattle.stop_history.specs.declared.roster.Row.{Row}
use Rattle.stop_history.specs.Roster.{row_at}
use Rattle.stop_history.specs.declared.wait_request.WaitRequest.{WaitRequest}
use Rattle.trace_calls.specs.declared.row_status.RowStatus.{RowStatus}
use Rattle.trace_record.specs.Content.{Content}
use Rattle.stop_table.specs.Entry.{content_after}
use Rattle.stop_table.specs.Tracer.{is_held}
use Rattle.stop_table.specs.View.{View}
use Rattle.trace_calls.specs.Handle.{CallsHandle, KeepsRows}
use Rattle.trace_calls.specs.RowStatus.{ReportsDeath}
use Rattle.stop_history.specs.declared.selection.Selection.{Selection}
use Rattle.stop_history.specs.WaitRequest.{claiming}
use Rattle.trace_calls.specs.Waiting.{Found, NoChild, NothingYet}

-- the wait status of a row with this raw status
abbrev pub IsStatusOf : List Row → (row raw : ℕ) → WaitStatus → Type 0
IsStatusOf rows row raw status = (pid_of status ≡ Some (row_at rows row).tid) × Encodes status raw

-- the records once a row was answered: where the answer claimed the row, its record is the one that its tracee published
abbrev pub records_with : View → ℕ → List (Option Content) → List (Option Content)
records_with w row records =
    if is_held w row then slice_set records row (Some (content_after w.roster w.seen row)) else records

-- A status of a row was answered: that of the first selected row that had one. The row's count is now the number of the
-- stop that was answered, for a death that of the last stop; the other counts are as they were.
pub record AnswersRow (request : WaitRequest) (a b : CallsHandle) (status : WaitStatus) : Type 0 where
  pub row : ℕ
  pub number : ℕ
  pub raw : ℕ
  pub found : Found request a.view b.view row number raw
  pub is_status : IsStatusOf a.view.roster row raw status
  pub counts : b.counts ≡ slice_set a.counts row number
  pub records : b.records ≡ records_with b.view row a.records

-- StillAlive names no tracee
abbrev pub IsStatusAnswer : WaitRequest → CallsHandle → CallsHandle → WaitStatus → Option ℕ → Type 0
IsStatusAnswer request a b status None = NothingYet request a.view b.view × KeepsRows a b
IsStatusAnswer request a b status (Some pid) = AnswersRow request a b status

abbrev pub IsRequestAnswer : WaitRequest → CallsHandle → CallsHandle → Result WaitStatus Errno → Type 0
IsRequestAnswer request a b (Ok status) = IsStatusAnswer request a b status (pid_of status)
IsRequestAnswer request a b (Err errno.ECHILD) = NoChild request a.view b.view × KeepsRows a b
IsRequestAnswer request a b (Err errno.EINVAL) = ⊥
IsRequestAnswer request a b (Err errno.ESRCH) = ⊥
IsRequestAnswer request a b (Err errno.EIO) = ⊥

-- a wait whose arguments ask for nothing answers EINVAL and looks at nothing; one whose arguments ask for something
-- answers it
abbrev pub IsWaitAnswer : Option WaitRequest → CallsHandle → CallsHandle → Result WaitStatus Errno → Type 0
IsWaitAnswer None a b result = (result ≡ Err errno.EINVAL) × (b ≡ a)
IsWaitAnswer (Some request) a b result = IsRequestAnswer request a b result

-- ---- with the row, the number and the death

-- A status of a row was answered, with the row, the number and the death: that of the first selected row that had one.
-- The row's count is now this number; the other counts are as they were.
pub record AnswersByRow (request : WaitRequest) (a b : CallsHandle) (found : RowStatus) : Type 0 where
  pub raw : ℕ
  pub is_found : Found request a.view b.view found.row found.number raw
  pub is_status : IsStatusOf a.view.roster found.row raw found.status
  pub reports : ReportsDeath raw found.death
  pub counts : b.counts ≡ slice_set a.counts found.row found.number
  pub records : b.records ≡ records_with b.view found.row a.records

-- the same of a wait that claims, for whichever tracees
abbrev pub HasFound : CallsHandle → CallsHandle → RowStatus → Type 0
HasFound a b found = (selection : Selection) × AnswersByRow (claiming selection) a b found

-- None: there is nothing to report yet
abbrev pub IsRowAnswer : WaitRequest → CallsHandle → CallsHandle → Result (Option RowStatus) Errno → Type 0
IsRowAnswer request a b (Ok (Some found)) = AnswersByRow request a b found
IsRowAnswer request a b (Ok None) = NothingYet request a.view b.view × KeepsRows a b
IsRowAnswer request a b (Err errno.ECHILD) = NoChild request a.view b.view × KeepsRows a b
IsRowAnswer request a b (Err errno.EINVAL) = ⊥
IsRowAnswer request a b (Err errno.ESRCH) = ⊥
IsRowAnswer request a b (Err errno.EIO) = ⊥

abbrev pub IsWaitRowAnswer : Option WaitRequest → CallsHandle → CallsHandle → Result (Option RowStatus) Errno → Type 0
IsWaitRowAnswer None a b result = (result ≡ Err errno.EINVAL) × (b ≡ a)
IsWaitRowAnswer (Some request) a b result = IsRowAnswer request a b result

-- the answer without the row, the number and the death
abbrev pub without_row : Result (Option RowStatus) Errno → Result WaitStatus Errno
without_row (Ok (Some found)) = Ok found.status
without_row (Ok None) = Ok StillAlive
without_row (Err error) = Err error
