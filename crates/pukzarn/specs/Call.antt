-- What a call answers on a handle that holds a before it and b after it.
use Rattle.std.specs.Prelude.{◌≡◌, ◌⊎◌, ◌<◌, ◌^◌, ◌++◌, ℕ, ℤ, pos, neg_ℤ, List, Option, None, Some, Result, Ok, Err}
use Rattle.std.specs.Prelude.{drop, length}
use Rattle.trace_pages.specs.FlatMemory.{run}
use Rattle.trace_calls.specs.Handle.{CallsHandle, KeepsTable}
use Rattle.trace_record.specs.Content.{Content}
use Rattle.c_interface.specs.Error.{error_number}
use Rattle.c_interface.specs.declared.error.Error.{Error}
use Rattle.c_interface.specs.declared.error.Error.TheVariants as error
use Rattle.c_interface.specs.declared.tracer_end.TracerEnd.{TracerEnd}
use Rattle.c_interface.specs.declared.waited.CWaitpid.{CWaitpid}
use Rattle.pukzarn.specs.declared.handle_value.HandleValue.{HandleValue}
use Rattle.pukzarn.specs.declared.handle.Handle.{Handle}

-- the negative number of an error
abbrev pub negative : Error → ℤ
negative why = neg_ℤ (pos (error_number why))

-- the answer: 0, or the negative number of the error
abbrev pub IsStatus : {T : Type 0} → (result : ℤ) → Result T Error → Type 0
IsStatus result (Ok done) = result ≡ pos 0
IsStatus result (Err why) = result ≡ negative why

-- the answer, and what is written: a value, or nothing at an error
abbrev pub IsStatusInto : {T : Type 0} → (result : ℤ) (before after : T) → Result T Error → Type 0
IsStatusInto result before after (Ok value) = (result ≡ pos 0) × (after ≡ value)
IsStatusInto result before after (Err why) = (result ≡ negative why) × (after ≡ before)

-- the answer: 1, and what is written; 0 where nothing was found, and then nothing is written, as at an error
abbrev pub IsFoundInto : {T : Type 0} → (result : ℤ) (before after : T) → Result (Option T) Error → Type 0
IsFoundInto result before after (Ok (Some value)) = (result ≡ pos 1) × (after ≡ value)
IsFoundInto result before after (Ok None) = (result ≡ pos 0) × (after ≡ before)
IsFoundInto result before after (Err why) = (result ≡ negative why) × (after ≡ before)

-- the answer: the pid that waitpid(2) reports, if it is one, with its raw status written; or 0
abbrev pub IsPidInto : (result : ℤ) (before after : ℕ) → Result (Option CWaitpid) Error → Type 0
IsPidInto result before after (Ok (Some told)) = (told.pid < 2 ^ 31 → result ≡ pos told.pid) × (after ≡ told.status)
IsPidInto result before after (Ok None) = (result ≡ pos 0) × (after ≡ before)
IsPidInto result before after (Err why) = (result ≡ negative why) × (after ≡ before)

-- the answer: a number that has room in an int, or in a long, or the negative number of the error
abbrev pub IsInt : (result : ℤ) → Result ℕ Error → Type 0
IsInt result (Ok number) = number < 2 ^ 31 → result ≡ pos number
IsInt result (Err why) = result ≡ negative why

abbrev pub IsLong : (result : ℤ) → Result ℕ Error → Type 0
IsLong result (Ok count) = count < 2 ^ 63 → result ≡ pos count
IsLong result (Err why) = result ≡ negative why

-- the same beside a buffer, which an error leaves as it was
abbrev pub StaysAtError : {T : Type 0} → (before after : T) → Result ℕ Error → Type 0
StaysAtError before after (Ok number) = Unit {0}
StaysAtError before after (Err why) = after ≡ before

abbrev pub IsIntBeside : {T : Type 0} → (result : ℤ) (before after : T) → Result ℕ Error → Type 0
IsIntBeside result before after done = IsInt result done × StaysAtError before after done

abbrev pub IsLongBeside : {T : Type 0} → (result : ℤ) (before after : T) → Result ℕ Error → Type 0
IsLongBeside result before after done = IsLong result done × StaysAtError before after done

-- a read of a record's memory into a buffer
abbrev pub IsReadFrom : Content → (address : ℕ) (old new : List ℕ) → Result ℕ Error → Type 0
IsReadFrom a address old new done =
    (done ≡ Ok (length (run a.memory address (length old))))
    × (new ≡ run a.memory address (length old) ++ drop (length (run a.memory address (length old))) old)

-- what a handle holds
abbrev pub IsHandleClosed : Handle → Type 0
IsHandleClosed a = a.slot.value ≡ None

abbrev pub Holds : Handle → HandleValue → Type 0
Holds a end = a.slot.value ≡ Some end

-- it holds the same as before
abbrev pub HoldsOn : (a b : Handle) → Type 0
HoldsOn a b = b.slot.value ≡ a.slot.value

-- it is closed, or holds an end of another kind
abbrev pub HoldsNo : {X : Type 0} → (X → HandleValue) → Handle → Type 0
HoldsNo {X} kind a = (x : X) → Holds a (kind x) → ⊥

-- A call on an end of this kind. A handle that holds none is EBADF, and stays as it is. Else the call happens, and the
-- handle holds what it leaves.
pub record IsCallOn {X T : Type 0} (kind : X → HandleValue) (a b : Handle) (answers : Result T Error → Type 0)
    (happens : X → X → Result T Error → Type 0) : Type 0 where
  pub refused : HoldsNo kind a → HoldsOn a b × answers (Err error.EBADF)
  pub stays : (x : X) → Holds a (kind x) → HoldsNo kind b → ⊥
  pub answered : (x y : X) → Holds a (kind x) → Holds b (kind y)
      → (done : Result T Error) × happens x y done × answers done

-- what happens in a call of a tracer's handle, which stays one of the same table
abbrev pub OnTable : {T : Type 0} → (CallsHandle → CallsHandle → Result T Error → Type 0)
    → TracerEnd → TracerEnd → Result T Error → Type 0
OnTable happens a b done = KeepsTable a.calls b.calls × happens a.calls b.calls done

-- A close: it leaves no end of this kind.
pub record IsClose {X : Type 0} (kind : X → HandleValue) (a b : Handle) (result : ℤ) : Type 0 where
  pub refused : HoldsNo kind a → HoldsOn a b × (result ≡ negative error.EBADF)
  pub closed : (x : X) → Holds a (kind x) → IsHandleClosed b × (result ≡ pos 0)

-- What was made is in the handle, unless there was no memory for it.
abbrev pub IsPutIn : {X : Type 0} → (kind : X → HandleValue) → Result X Error → (b : Handle) → (result : ℤ) → Type 0
IsPutIn kind (Ok x) b result =
    ((result ≡ pos 0) × Holds b (kind x)) ⊎ ((result ≡ negative error.ENOMEM) × IsHandleClosed b)
IsPutIn kind (Err why) b result = (result ≡ negative why) × IsHandleClosed b

-- An opening of an end of this kind. A handle that is open is EBUSY and stays as it is.
pub record IsOpenCall {X : Type 0} (kind : X → HandleValue) (a b : Handle) (result : ℤ) (makes : Result X Error → Type 0)
    : Type 0 where
  pub busy : (IsHandleClosed a → ⊥) → HoldsOn a b × (result ≡ negative error.EBUSY)
  pub opened : IsHandleClosed a → (made : Result X Error) × makes made × IsPutIn kind made b result
