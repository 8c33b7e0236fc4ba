-- The calls by pid for C (ptrace(2)), from the handle before a call (a) to the handle after it (b). Each is the caller's
-- own call where the numbers name its arguments.
use Rattle.std.specs.Prelude.{◌≡◌, ◌⊎◌, ◌<◌, ◌≤◌, ℕ, ℤ, List, Some, Result, Ok, Err, length}
use Rattle.stop_history.specs.declared.state.State.TheVariants as state
use Rattle.stop_table.specs.Handle.{LooksAt}
use Rattle.stop_table.specs.declared.shown.Shown.{Shown}
use Rattle.trace_calls.specs.ByPid.{HasClaimed, HasNotClaimed, IsBytesWrite, IsRegsWrite, IsRestart}
use Rattle.trace_calls.specs.Handle.{CallsHandle, KeepsRows, claimed_record}
use Rattle.trace_options.specs.declared.errno.Errno.{Errno}
use Rattle.trace_options.specs.declared.signal.TheConstants.{LAST_SIGNAL}
use Rattle.trace_record.specs.Content.{Content}
use Rattle.trace_record.specs.declared.resume.Kind.{Kind}
use Rattle.trace_regs.specs.declared.regs.Regs.{Regs}
use Rattle.c_interface.specs.Restart.{IsOfNoKind, restart_kind}
use Rattle.c_interface.specs.State.{shown_in_numbers, state_in_numbers}
use Rattle.c_interface.specs.Waited.{called}
use Rattle.c_interface.specs.declared.error.Error.{Error}
use Rattle.c_interface.specs.declared.error.Error.TheVariants as error
use Rattle.c_interface.specs.declared.restart.CRestart.{CRestart}
use Rattle.c_interface.specs.declared.state.CState.{CState}

-- something of the record of a claimed stop; ESRCH where the tracer has not claimed it
abbrev pub IsShownFor : {T : Type 0} → CallsHandle → ℤ → (Content → T) → Result T Error → Type 0
IsShownFor a pid shown (Ok answer) = (row : ℕ) × HasClaimed a pid row × (answer ≡ shown (claimed_record a row))
IsShownFor a pid shown (Err refusal) = HasNotClaimed a pid × (refusal ≡ error.ESRCH)

-- the state that a look showed; no row is ABSENT
abbrev pub IsLookFor : (a b : CallsHandle) → (row : ℕ) → CState → Type 0
IsLookFor a b row result =
    ((length a.view.roster ≤ row) × (result ≡ state_in_numbers state.Absent) × (b ≡ a))
    ⊎ ((row < length a.view.roster) × KeepsRows a b
    × ((shown : Shown) × LooksAt a.view b.view row shown × (result ≡ shown_in_numbers shown)))

abbrev pub IsRegsWriteFor : (a b : CallsHandle) → ℤ → Regs → Result (Unit {0}) Error → Type 0
IsRegsWriteFor a b pid regs result =
    (done : Result (Unit {0}) Errno) × IsRegsWrite a b pid regs done × (result ≡ called done)

abbrev pub IsBytesWriteFor : (a b : CallsHandle) → ℤ → (address : ℕ) → List ℕ → Result (Unit {0}) Error → Type 0
IsBytesWriteFor a b pid address bytes result =
    (done : Result (Unit {0}) Errno) × IsBytesWrite a b pid address bytes done × (result ≡ called done)

-- a signal above the last one, whatever it is, is refused as the call refuses one
abbrev pub IsRestartBySignal : (a b : CallsHandle) → ℤ → Kind → (signal : ℕ) → Result (Unit {0}) Error → Type 0
IsRestartBySignal a b pid kind signal result =
    (given : ℕ) × ((given ≡ signal) ⊎ ((LAST_SIGNAL < signal) × (LAST_SIGNAL < given)))
    × ((done : Result (Unit {0}) Errno) × IsRestart a b pid kind (Some given) done × (result ≡ called done))

-- EINVAL for a number of no kind
abbrev pub IsRestartFor : (a b : CallsHandle) → ℤ → CRestart → Result (Unit {0}) Error → Type 0
IsRestartFor a b pid how result =
    (IsOfNoKind how.kind × (result ≡ Err error.EINVAL) × (b ≡ a))
    ⊎ ((kind : Kind) × (restart_kind kind ≡ how.kind) × IsRestartBySignal a b pid kind how.signal result)
