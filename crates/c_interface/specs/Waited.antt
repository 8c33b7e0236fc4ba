-- What a wait of C asks for and reports (waitid(2), waitpid(2)).
use Rattle.std.specs.Prelude.{◌≡◌, ◌≢◌, ◌==◌, ◌⊎◌, ◌<◌, ◌≤◌, ℕ, ℤ, Option, Some, None, Result, Ok, Err}
use Rattle.std.specs.Prelude.{if◌then◌else◌, length}
use Rattle.stop_history.specs.WaitRequest.{waitid_request, waitpid_request}
use Rattle.stop_history.specs.declared.wait_request.WaitRequest.{WaitRequest}
use Rattle.stop_history.specs.declared.id.Id.{Id}
use Rattle.stop_history.specs.declared.id.Id.TheVariants as ids
use Rattle.trace_calls.specs.Answer.{IsWaitAnswer, IsWaitRowAnswer}
use Rattle.trace_calls.specs.ByRow.{row_request}
use Rattle.trace_calls.specs.Handle.{CallsHandle}
use Rattle.trace_calls.specs.declared.row_status.RowStatus.{RowStatus}
use Rattle.std.specs.Int.RustNames.{bit_and}
use Rattle.trace_options.specs.WaitFlags.{all_wait_flags, wait_flag_bits}
use Rattle.trace_options.specs.declared.errno.Errno.{Errno}
use Rattle.trace_options.specs.declared.errno.Errno.TheVariants as errno
use Rattle.trace_options.specs.declared.wait_flags.WaitFlags.{WaitFlags}
use Rattle.trace_status.specs.WaitStatus.{Encodes, pid_of}
use Rattle.trace_status.specs.declared.wait_status.WaitStatus.{WaitStatus}
use Rattle.trace_status.specs.declared.wait_status.WaitStatus.TheVariants.{Exited, Signaled, StillAlive}
use Rattle.c_interface.specs.declared.error.Error.{Error}
use Rattle.c_interface.specs.declared.error.Error.TheVariants as error
use Rattle.c_interface.specs.declared.waited.CWaited.{CWaited}
use Rattle.c_interface.specs.declared.waited.CWaitpid.{CWaitpid}
use Rattle.c_interface.specs.declared.waited.TheConstants.{P_ALL, P_PID, P_PGID}

-- an error of a wait or of a call by pid
abbrev pub error_in : Errno → Error
error_in errno.ESRCH = error.ESRCH
error_in errno.EIO = error.EIO
error_in errno.ECHILD = error.ECHILD
error_in errno.EINVAL = error.EINVAL

-- the answer of such a call, with the error that its refusal is
abbrev pub called : {T : Type 0} → Result T Errno → Result T Error
called (Ok answer) = Ok answer
called (Err refusal) = Err (error_in refusal)

-- whom these numbers name (waitid(2), idtype_t)
abbrev pub id_in : (idtype : ℕ) → ℤ → Option Id
id_in idtype id =
    if idtype == P_ALL then Some ids.All else if idtype == P_PID then Some (ids.Pid id)
    else if idtype == P_PGID then Some (ids.PGid id) else None

-- one of the bits is of no flag
abbrev pub AreOfNoFlags : ℕ → Type 0
AreOfNoFlags options = bit_and options all_wait_flags ≢ options

-- 1 for a death
abbrev pub death_flag : WaitStatus → ℕ
death_flag (Exited pid code) = 1
death_flag (Signaled pid signal core) = 1
death_flag other = 0

-- a report of a row: its thread id and its raw status, if the status has them
pub record IsReportOf (found : RowStatus) (waited : CWaited) : Type 0 where
  pub row : waited.row ≡ found.row
  pub number : waited.number ≡ found.number
  pub tid : (tid : ℕ) → pid_of found.status ≡ Some tid → waited.tid ≡ tid
  pub status : (raw : ℕ) → Encodes found.status raw → waited.status ≡ raw
  pub death : waited.death ≡ death_flag found.status

abbrev pub IsWaitReport : Result (Option RowStatus) Errno → Result (Option CWaited) Error → Type 0
IsWaitReport (Ok (Some found)) (Ok (Some waited)) = IsReportOf found waited
IsWaitReport (Ok None) result = result ≡ Ok None
IsWaitReport (Err refusal) result = result ≡ Err (error_in refusal)
IsWaitReport told other = ⊥

-- a wait of these tracees, by what waitid(2) asks for with the flags
abbrev pub IsWaitOf : (WaitFlags → Option WaitRequest) → (options : ℕ) (a b : CallsHandle)
    → Result (Option CWaited) Error → Type 0
IsWaitOf asks options a b result =
    (AreOfNoFlags options × (result ≡ Err error.EINVAL) × (b ≡ a))
    ⊎ ((flags : WaitFlags) × (told : Result (Option RowStatus) Errno) × (wait_flag_bits flags ≡ options)
    × IsWaitRowAnswer (asks flags) a b told × IsWaitReport told result)

-- waitid(2), as with WNOHANG: EINVAL also for numbers that name nobody, or no set of flags
abbrev pub IsWaitidFor : (idtype : ℕ) (id : ℤ) (options : ℕ) (a b : CallsHandle) → Result (Option CWaited) Error
    → Type 0
IsWaitidFor idtype id options a b result =
    ((id_in idtype id ≡ None) × (result ≡ Err error.EINVAL) × (b ≡ a))
    ⊎ ((who : Id) × (id_in idtype id ≡ Some who) × IsWaitOf (waitid_request who) options a b result)

-- the same of the tracee of a row: EINVAL also where there is none
abbrev pub IsWaitRowFor : (row options : ℕ) (a b : CallsHandle) → Result (Option CWaited) Error → Type 0
IsWaitRowFor row options a b result =
    ((length a.view.roster ≤ row) × (result ≡ Err error.EINVAL) × (b ≡ a))
    ⊎ ((row < length a.view.roster) × IsWaitOf (row_request a.view.roster row) options a b result)

-- ---- waitpid(2)

-- a report of a tracee: its thread id and its raw status, if the status has them
abbrev pub IsPidReportOf : WaitStatus → CWaitpid → Type 0
IsPidReportOf status told =
    ((tid : ℕ) → pid_of status ≡ Some tid → told.pid ≡ tid) × ((raw : ℕ) → Encodes status raw → told.status ≡ raw)

abbrev pub IsPidReport : Result WaitStatus Errno → Result (Option CWaitpid) Error → Type 0
IsPidReport (Ok status) (Ok None) = status ≡ StillAlive
IsPidReport (Ok status) (Ok (Some told)) = (status ≢ StillAlive) × IsPidReportOf status told
IsPidReport (Err refusal) result = result ≡ Err (error_in refusal)
IsPidReport told other = ⊥

-- as with WNOHANG: EINVAL also for no set of flags
abbrev pub IsWaitpidFor : (pid : ℤ) (options : ℕ) (a b : CallsHandle) → Result (Option CWaitpid) Error → Type 0
IsWaitpidFor pid options a b result =
    (AreOfNoFlags options × (result ≡ Err error.EINVAL) × (b ≡ a))
    ⊎ ((flags : WaitFlags) × (told : Result WaitStatus Errno) × (wait_flag_bits flags ≡ options)
    × IsWaitAnswer (waitpid_request pid flags) a b told × IsPidReport told result)
