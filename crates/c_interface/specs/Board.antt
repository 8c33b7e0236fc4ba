-- The calls of the board for C: from the board before a call (a) to the board after it (b). Each is the board's own call
-- where the numbers name its arguments.
use Rattle.std.specs.Prelude.{◌≡◌, ◌⊎◌, ◌+◌, ◌<◌, ◌≤◌, ℕ, ℤ, List, Some, None, Result, Ok, Err, OnErr}
use Rattle.stop_history.specs.Event as event
use Rattle.stop_history.specs.Event.{Event, History}
use Rattle.stop_history.specs.Sequential.{claim_answer, exit_answer, goes_on, publish_answer, resume_answer}
use Rattle.stop_history.specs.State.{last_number, state_after}
use Rattle.stop_history.specs.WaitRequest.{waitid_request}
use Rattle.stop_history.specs.declared.id.Id.{Id}
use Rattle.stop_history.specs.declared.wait_request.WaitRequest.{WaitRequest}
use Rattle.stop_history.specs.declared.got.Got.{Got}
use Rattle.stop_history.specs.declared.refused.Refused.{Refused}
use Rattle.stop_board.specs.Board.{Held, StandsAfter}
use Rattle.stop_board.specs.Waitable.{IsWaitableAnswer}
use Rattle.trace_options.specs.WaitFlags.{wait_flag_bits}
use Rattle.trace_options.specs.declared.errno.Errno.{Errno}
use Rattle.trace_options.specs.declared.wait_flags.WaitFlags.{WaitFlags}
use Rattle.trace_options.specs.declared.signal.TheConstants.{LAST_SIGNAL}
use Rattle.trace_record.specs.Death.{IsDeath, death_status}
use Rattle.trace_record.specs.declared.death.Death.{Death}
use Rattle.trace_record.specs.declared.resume.Kind.{Kind}
use Rattle.trace_record.specs.declared.resume.Resume.{Resume}
use Rattle.trace_record.specs.declared.stop.Stop.{Stop}
use Rattle.c_interface.specs.Error.{answered, error_of}
use Rattle.c_interface.specs.Got.{got_numbers}
use Rattle.c_interface.specs.Restart.{IsOfNoKind, restart_kind}
use Rattle.c_interface.specs.Stop.{AreOfNoStop, IsMade, numbers_of}
use Rattle.c_interface.specs.Waited.{AreOfNoFlags, called, id_in}
use Rattle.c_interface.specs.declared.error.Error.{Error}
use Rattle.c_interface.specs.declared.error.Error.TheVariants as error
use Rattle.c_interface.specs.declared.got.CGot.{CGot}
use Rattle.c_interface.specs.declared.restart.CRestart.{CRestart}
use Rattle.c_interface.specs.declared.stop.CStop.{CStop}

-- A call that the board answers at every history at which it stands, which then goes on with the call's event; what is
-- refused has changed nothing.
pub record IsAnswered {T : Type 0} (a b : Held) (answer : History → Result T Refused) (happens : History → Event)
    (done : Result T Refused) : Type 0 where
  pub answer_is : (h : History) → StandsAfter a h → done ≡ answer h
  pub stands : (h : History) → StandsAfter a h → StandsAfter b (goes_on done (happens h) h)
  pub rows : b.rows ≡ a.rows
  pub kept : OnErr done (b ≡ a)

-- numbers that name no argument of the call: EINVAL, and nothing has changed
abbrev pub IsInvalid : {T : Type 0} → (a b : Held) → Result T Error → Type 0
IsInvalid a b result = (result ≡ Err error.EINVAL) × (b ≡ a)

abbrev pub IsBoardPublish : (a b : Held) (row : ℕ) → Stop → Result ℕ Refused → Type 0
IsBoardPublish a b row at done =
    IsAnswered a b (λ h. publish_answer a.rows h row at) (λ h. event.Publish row (last_number h row + 1) at) done

abbrev pub IsPublishFor : (a b : Held) (row : ℕ) → CStop → Result ℕ Error → Type 0
IsPublishFor a b row numbers result =
    (AreOfNoStop numbers × IsInvalid a b result)
    ⊎ ((at : Stop) × (done : Result ℕ Refused) × IsMade at × (numbers_of at ≡ numbers)
    × IsBoardPublish a b row at done × (result ≡ answered done))

abbrev pub IsBoardExit : (a b : Held) (row : ℕ) → Death → Result (Unit {0}) Refused → Type 0
IsBoardExit a b row death done = IsAnswered a b (λ h. exit_answer a.rows h row) (λ h. event.Exit row death) done

-- a raw wait status that no death has
abbrev pub IsOfNoDeath : ℕ → Type 0
IsOfNoDeath status = (death : Death) → IsDeath death → death_status death ≡ status → ⊥

abbrev pub IsExitFor : (a b : Held) (row status : ℕ) → Result (Unit {0}) Error → Type 0
IsExitFor a b row status result =
    (IsOfNoDeath status × IsInvalid a b result)
    ⊎ ((death : Death) × (done : Result (Unit {0}) Refused) × IsDeath death × (death_status death ≡ status)
    × IsBoardExit a b row death done × (result ≡ answered done))

abbrev pub IsBoardClaim : (a b : Held) (row tracer : ℕ) → Result Got Refused → Type 0
IsBoardClaim a b row tracer done =
    IsAnswered a b (λ h. claim_answer a.rows h row tracer) (λ h. event.Claim row (last_number h row) tracer) done

-- what was got, in numbers
abbrev pub got_in_numbers : Result Got Error → Result CGot Error
got_in_numbers (Ok got) = Ok (got_numbers got)
got_in_numbers (Err refusal) = Err refusal

abbrev pub IsClaimFor : (a b : Held) (row tracer : ℕ) → Result CGot Error → Type 0
IsClaimFor a b row tracer result =
    (done : Result Got Refused) × IsBoardClaim a b row tracer done × (result ≡ got_in_numbers (answered done))

abbrev pub IsBoardResume : (a b : Held) (row tracer : ℕ) → Resume → Result (Unit {0}) Refused → Type 0
IsBoardResume a b row tracer how done =
    IsAnswered a b (λ h. resume_answer a.rows h row tracer) (λ h. event.Resume row (last_number h row) how tracer) done

-- a signal above the last one is refused where nothing else of the restart is: EIO (ptrace(2))
abbrev pub with_bad_signal : Result (Unit {0}) Refused → Result (Unit {0}) Error
with_bad_signal (Ok done) = Err error.EIO
with_bad_signal (Err refusal) = Err (error_of refusal)

abbrev pub IsResumeBySignal : (a b : Held) (row tracer : ℕ) → Kind → (signal : ℕ) → Result (Unit {0}) Error → Type 0
IsResumeBySignal a b row tracer kind signal result =
    ((signal ≤ LAST_SIGNAL) × ((done : Result (Unit {0}) Refused)
    × IsBoardResume a b row tracer (record { kind = kind; signal = signal }) done × (result ≡ answered done)))
    ⊎ ((LAST_SIGNAL < signal) × (b ≡ a)
    × ((h : History) → StandsAfter a h → result ≡ with_bad_signal (resume_answer a.rows h row tracer)))

abbrev pub IsResumeFor : (a b : Held) (row tracer : ℕ) → CRestart → Result (Unit {0}) Error → Type 0
IsResumeFor a b row tracer how result =
    (IsOfNoKind how.kind × IsInvalid a b result)
    ⊎ ((kind : Kind) × (restart_kind kind ≡ how.kind) × IsResumeBySignal a b row tracer kind how.signal result)

-- ---- which rows a wait may be answered

-- numbers of no wait: they name nobody, or no set of flags, or what waitid(2) refuses
abbrev pub AreOfNoWait : (idtype : ℕ) (id : ℤ) (options : ℕ) → Type 0
AreOfNoWait idtype id options =
    (id_in idtype id ≡ None) ⊎ (AreOfNoFlags options
    ⊎ ((who : Id) × (flags : WaitFlags) × (id_in idtype id ≡ Some who) × (wait_flag_bits flags ≡ options)
    × (waitid_request who flags ≡ None)))

-- the rows at every history at which the board stands
abbrev pub IsWaitableAt : Held → WaitRequest → (old new : List ℕ) → Result ℕ Error → Type 0
IsWaitableAt a request old new result =
    (done : Result ℕ Errno) × (result ≡ called done)
    × ((h : History) → StandsAfter a h → IsWaitableAnswer a.rows (state_after a.rows h) request old new done)

abbrev pub IsWaitableFor : (idtype : ℕ) (id : ℤ) (options : ℕ) → Held → (old new : List ℕ) → Result ℕ Error → Type 0
IsWaitableFor idtype id options a old new result =
    (AreOfNoWait idtype id options × (result ≡ Err error.EINVAL) × (new ≡ old))
    ⊎ ((who : Id) × (flags : WaitFlags) × (request : WaitRequest) × (id_in idtype id ≡ Some who)
    × (wait_flag_bits flags ≡ options) × (waitid_request who flags ≡ Some request)
    × IsWaitableAt a request old new result)
