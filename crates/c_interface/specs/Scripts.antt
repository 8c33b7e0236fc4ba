-- The calls for C on case files and on the machines of their scripts.
use Rattle.std.specs.Prelude.{◌≡◌, ◌==◌, ◌⊎◌, ◌-◌, ◌≤◌, ◌<◌, ◌++◌, ◌∷◌, [], ℕ, List, Result, Ok, Err, length, take}
use Rattle.std.specs.Prelude.{if◌then◌else◌}
use Rattle.stop_history.specs.Roster.{row_at}
use Rattle.trace_options.specs.Calls.{has_call}
use Rattle.trace_options.specs.declared.filter.Filter.{Filter}
use Rattle.trace_options.specs.declared.options.TheConstants.Options.{TRACESYSGOOD}
use Rattle.trace_options.specs.declared.signal.TheConstants.{LAST_SIGNAL}
use Rattle.std.specs.Prelude.{false}
use Rattle.trace_record.specs.Content.{Content}
use Rattle.trace_record.specs.Death.{death_status}
use Rattle.trace_record.specs.declared.resume.Kind.{Kind}
use Rattle.trace_record.specs.declared.resume.Resume.{Resume}
use Rattle.trace_script.specs.CaseFile.{CaseContent, script_at}
use Rattle.trace_script.specs.Machine.{StaysAtStop}
use Rattle.trace_script.specs.StopTrace.{DeathIs, Element, FaultIs, Position, StopIs, context_of, next_element}
use Rattle.trace_script.specs.StopTrace.{next_position, opening_position}
use Rattle.c_interface.specs.Restart.{IsOfNoKind, restart_kind}
use Rattle.c_interface.specs.Stop.{numbers_of}
use Rattle.c_interface.specs.declared.error.Error.{Error}
use Rattle.c_interface.specs.declared.error.Error.TheVariants as error
use Rattle.c_interface.specs.declared.restart.CRestart.{CRestart}
use Rattle.c_interface.specs.declared.scripts.NextStep.{NextStep}
use Rattle.c_interface.specs.declared.scripts.NextStep.TheVariants as step

-- a text in a buffer with this much room: cut, and ended by a zero
abbrev pub ended_text : (room : ℕ) → List ℕ → List ℕ
ended_text room text = if room == 0 then [] else take (room - 1) text ++ 0 ∷ []

-- ---- machines

-- a filter that stops no call
pub record StopsNoCall (filter : Filter) : Type 0 where
  pub none : (nr : ℕ) → has_call filter.calls nr ≡ false
  pub ret_data : filter.ret_data ≡ 0

-- the machine of a row's script, before its first stop
abbrev pub IsOpened : CaseContent → (row : ℕ) → Position → Type 0
IsOpened case row machine =
    (filter : Filter) × StopsNoCall filter
    × (machine ≡ opening_position
    (record { tid = (row_at case.rows row).tid; options = TRACESYSGOOD; filter = filter }) (script_at case.scripts row))

abbrev pub IsNewMachine : CaseContent → (row : ℕ) → Result Position Error → Type 0
IsNewMachine case row (Ok machine) = (row < length case.rows) × IsOpened case row machine
IsNewMachine case row (Err error.EINVAL) = length case.rows ≤ row
IsNewMachine case row (Err error.ENOMEM) = row < length case.rows
IsNewMachine case row (Err other) = ⊥

-- the next element of the trace: its stop, which is in the record, its death, or EFAULT where it stores to what is not
-- mapped; `made` is the record of the stop
abbrev pub IsElement : Element → (Content → Content) → (old new : Content) → Result NextStep Error → Type 0
IsElement (StopIs content) made old new result =
    (result ≡ Ok (step.Stop (numbers_of content.stop))) × (new ≡ made content)
IsElement (DeathIs death) made old new result = (result ≡ Ok (step.Death (death_status death))) × StaysAtStop old new
IsElement (FaultIs address) made old new result = (result ≡ Err error.EFAULT) × (new ≡ old)

abbrev pub itself : Content → Content
itself content = content

abbrev pub IsNextBy : (Content → Content) → (p q : Position) → Resume → (old new : Content) → Result NextStep Error
    → Type 0
IsNextBy made p q how old new result =
    (q ≡ next_position p how (context_of old)) × IsElement (next_element p how (context_of old)) made old new result

-- EINVAL for a number of no kind, EIO for a signal above the last one
abbrev pub IsMachineNext : (p q : Position) → CRestart → (old new : Content) → Result NextStep Error → Type 0
IsMachineNext p q how old new result =
    (IsOfNoKind how.kind × (result ≡ Err error.EINVAL) × (q ≡ p) × (new ≡ old))
    ⊎ ((kind : Kind) × (restart_kind kind ≡ how.kind)
    × (((LAST_SIGNAL < how.signal) × (result ≡ Err error.EIO) × (q ≡ p) × (new ≡ old))
    ⊎ ((how.signal ≤ LAST_SIGNAL) × IsNextBy itself p q (record { kind = kind; signal = how.signal }) old new result)))
