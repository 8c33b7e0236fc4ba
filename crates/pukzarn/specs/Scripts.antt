-- The calls on case files and on machines behind handles.
use Rattle.std.specs.Prelude.{◌≡◌, ◌++◌, ℕ, ℤ, pos, List, Result, Ok, Err, drop, length, map, take}
use Rattle.stop_history.specs.declared.roster.Row.{Row}
use Rattle.trace_script.specs.CaseFile.{CaseContent, case_of, lines_read}
use Rattle.trace_script.specs.Cause.{cause_name}
use Rattle.trace_script.specs.Reading.{Refuses}
use Rattle.trace_script.specs.declared.cause.CaseError.{CaseError}
use Rattle.trace_script.specs.declared.cause.Cause.{Cause}
use Rattle.trace_script.specs.declared.cause.Cause.TheVariants as cause
use Rattle.c_interface.specs.Opening.{ids_of_row}
use Rattle.c_interface.specs.Scripts.{ended_text}
use Rattle.c_interface.specs.Stop.{in_numbers}
use Rattle.c_interface.specs.declared.error.Error.{Error}
use Rattle.c_interface.specs.declared.error.Error.TheVariants as error
use Rattle.c_interface.specs.declared.opening.CRow.{CRow}
use Rattle.c_interface.specs.declared.scripts.NextStep.{NextStep}
use Rattle.c_interface.specs.declared.scripts.NextStep.TheVariants as step
use Rattle.c_interface.specs.declared.stop.CStop.{CStop}
use Rattle.c_interface.specs.declared.stop.TheConstants.CStop.{ENDING}
use Rattle.pukzarn.specs.Call.{HoldsOn, IsHandleClosed, IsPutIn, negative}
use Rattle.pukzarn.specs.declared.handle_value.HandleValue.TheVariants as ends
use Rattle.pukzarn.specs.declared.handle.Handle.{Handle}

-- what is written beside the answer of a refused file: its line, and its cause in a buffer
abbrev pub Written : Type 0
Written = ℕ × List ℕ

-- a text in a buffer, in place of its first bytes
abbrev pub with_text : List ℕ → (old : List ℕ) → List ℕ
with_text text old = ended_text (length old) text ++ drop (length (ended_text (length old) text)) old

abbrev pub IsFaultOf : Cause → (line : ℕ) → (before after : Written) → (result : ℤ) → Type 0
IsFaultOf cause.NoMemory line before after result = (result ≡ negative error.ENOMEM) × (after ≡ before)
IsFaultOf other line before after result =
    (result ≡ negative error.EINVAL) × (after.0 ≡ line) × (after.1 ≡ with_text (cause_name other) before.1)

-- a refused file is EINVAL, with its line and its cause; ENOMEM writes nothing
abbrev pub IsCaseFault : CaseError → (before after : Written) → (result : ℤ) → Type 0
IsCaseFault fault before after result = IsFaultOf fault.cause fault.line before after result

-- the case of a text, or why it is refused
abbrev pub IsCaseOf : List ℕ → Result CaseContent CaseError → Type 0
IsCaseOf text (Ok case) = case_of text ≡ Ok case
IsCaseOf text (Err fault) = Refuses text fault.cause fault.line (lines_read text) (case_of text)

abbrev pub IsCaseKept : (b : Handle) → (before after : Written) → (result : ℤ) → Result CaseContent CaseError → Type 0
IsCaseKept b before after result (Ok case) = IsPutIn ends.Case (Ok case) b result × (after ≡ before)
IsCaseKept b before after result (Err fault) = IsCaseFault fault before after result × IsHandleClosed b

-- a handle that is open is EBUSY and stays as it is
pub record IsCaseOpening (text : List ℕ) (a b : Handle) (before after : Written) (result : ℤ) : Type 0 where
  pub busy : (IsHandleClosed a → ⊥) → HoldsOn a b × (result ≡ negative error.EBUSY) × (after ≡ before)
  pub opened : IsHandleClosed a → (made : Result CaseContent CaseError) × IsCaseOf text made
      × IsCaseKept b before after result made

-- rows in a buffer, in place of its first ones, and how many rows there are
abbrev pub AreRowsInto : List Row → (old new : List CRow) → Result ℕ Error → Type 0
AreRowsInto rows old new done =
    (done ≡ Ok (length rows)) × (new ≡ map ids_of_row (take (length old) rows) ++ drop (length rows) old)

-- ---- machines

-- the answer: 0 and the stop, 1 and the raw wait status of the death, or the negative number of the error
abbrev pub IsStepInto : (result : ℤ) (before after : CStop) → Result NextStep Error → Type 0
IsStepInto result before after (Ok (step.Stop next)) = (result ≡ pos 0) × (after ≡ next)
IsStepInto result before after (Ok (step.Death raw)) = (result ≡ pos 1) × (after ≡ in_numbers ENDING raw)
IsStepInto result before after (Err why) = (result ≡ negative why) × (after ≡ before)

-- the answer of a call on a second handle is that of the call; where that handle holds no such end, what the first one
-- holds stays
abbrev pub IsWithSame : {X T : Type 0} → (a b : X) → (done told : Result T Error) → Type 0
IsWithSame a b done told = (done ≡ told) × (told ≡ Err error.EBADF → b ≡ a)
