-- The calls on a record for C (ptrace(2), PTRACE_GETREGS, PTRACE_SETREGS, PTRACE_PEEKDATA, PTRACE_POKEDATA), from the
-- record before a call (a) to the record after it (b).
use Rattle.std.specs.Prelude.{◌≡◌, ◌≢◌, ◌⊎◌, ◌<◌, ◌≤◌, ◌%◌, ℕ, List, Some, None, Result, Ok, Err, OnOk, OnErr}
use Rattle.std.specs.Prelude.{IsOkUnless, length}
use Rattle.stop_history.specs.declared.limits.TheConstants.{LAST_ID, LAST_NUMBER}
use Rattle.trace_pages.specs.FlatMemory.{FlatMemory, Full, MapsPage, StoresBytes, run_end}
use Rattle.trace_pages.specs.Memory.{map_refusal}
use Rattle.trace_pages.specs.declared.map_error.MapError.{MapError}
use Rattle.trace_pages.specs.declared.map_error.MapError.TheVariants as refused
use Rattle.trace_pages.specs.declared.pages.TheConstants.{PAGE_SIZE}
use Rattle.trace_record.specs.Content.{Content, content_by, empty_content}
use Rattle.trace_record.specs.declared.stop.Stop.{Stop}
use Rattle.trace_regs.specs.declared.regs.Regs.{Regs}
use Rattle.c_interface.specs.Stop.{AreOfNoStop, IsMade, numbers_of}
use Rattle.c_interface.specs.declared.error.Error.{Error}
use Rattle.c_interface.specs.declared.error.Error.TheVariants as error
use Rattle.c_interface.specs.declared.stop.CStop.{CStop}

-- a thread id (a row's: 1 to 4,194,303)
abbrev pub IsId : ℕ → Type 0
IsId tid = (1 ≤ tid) × (tid ≤ LAST_ID)

-- the empty record of a tracee
abbrev pub IsNewRecord : (tid : ℕ) → Result Content Error → Type 0
IsNewRecord tid (Ok content) = IsId tid × (content ≡ empty_content tid)
IsNewRecord tid (Err refusal) = (IsId tid → ⊥) × (refusal ≡ error.EINVAL)

-- the record of another stop, with this number: its tracee, registers and memory stay
abbrev pub at_stop : Content → (number : ℕ) → Stop → Content
at_stop a number at = content_by a.tid number at a.regs a.memory

-- EINVAL for numbers of no stop, and above the last number of a stop
abbrev pub IsStopSet : (a b : Content) (number : ℕ) → CStop → Result (Unit {0}) Error → Type 0
IsStopSet a b number numbers result =
    ((AreOfNoStop numbers ⊎ (LAST_NUMBER < number)) × (result ≡ Err error.EINVAL) × (b ≡ a))
    ⊎ ((number ≤ LAST_NUMBER) × ((at : Stop) × IsMade at × (numbers_of at ≡ numbers)
    × (result ≡ Ok tt) × (b ≡ at_stop a number at)))

-- the record with other registers, or with another memory
abbrev pub with_registers : Content → Regs → Content
with_registers a regs = content_by a.tid a.number a.stop regs a.memory

abbrev pub over_memory : Content → FlatMemory → Content
over_memory a memory = content_by a.tid a.number a.stop a.regs memory

abbrev pub map_error : MapError → Error
map_error refused.Mapped = error.EEXIST
map_error refused.TooMany = error.ENOSPC
map_error refused.NoMemory = error.ENOMEM

-- A page of zeros is mapped, and nothing else of the record changes. EINVAL: the address is no multiple of a page's
-- length; EEXIST: the page is there; ENOSPC: there are as many pages as there can be; else ENOMEM where a growth was
-- refused.
pub record IsMapping (a b : Content) (address : ℕ) (result : Result (Unit {0}) Error) : Type 0 where
  pub unaligned : address % PAGE_SIZE ≢ 0 → result ≡ Err error.EINVAL
  pub refused : (fault : MapError) → address % PAGE_SIZE ≡ 0 → map_refusal a.memory address ≡ Some fault
      → result ≡ Err (map_error fault)
  pub accepted : address % PAGE_SIZE ≡ 0 → map_refusal a.memory address ≡ None → IsOkUnless result error.ENOMEM
  pub others : b ≡ over_memory a b.memory
  pub mapped : OnOk result (MapsPage a.memory b.memory address)
  pub kept : OnErr result (b ≡ a)

-- all bytes are stored, or none where one of their addresses is not mapped or lies after the last one: EIO
abbrev pub IsWrite : (a b : Content) (address : ℕ) → List ℕ → Result (Unit {0}) Error → Type 0
IsWrite a b address bytes (Ok done) =
    (run_end a.memory address (length bytes) ≡ Full) × StoresBytes a.memory b.memory address bytes
    × (b ≡ over_memory a b.memory)
IsWrite a b address bytes (Err refusal) =
    (run_end a.memory address (length bytes) ≢ Full) × (refusal ≡ error.EIO) × (b ≡ a)
