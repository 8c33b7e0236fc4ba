-- The calls by pid (ptrace(2)): the tracee must be stopped and claimed by the caller.
use Rattle.std.specs.Prelude.{◌≡◌, ◌⊎◌, ◌<◌, ◌≤◌, ◌^◌, ◌+◌, ℕ, ℤ, pos, negsuc, true, false, List, Option, Some, None}
use Rattle.std.specs.Prelude.{Result, Ok, Err, EachIndex, ◌≢◌, length, slice_index, slice_set}
use Rattle.std.specs.Option.{unwrap_or}
use Rattle.std.specs.Int.{w64, cast_signed, cast_unsigned, from_le_bytes, to_le_bytes}
use Rattle.trace_options.specs.declared.errno.Errno.{Errno}
use Rattle.trace_options.specs.declared.errno.Errno.TheVariants as errno
use Rattle.trace_options.specs.declared.signal.TheConstants.{LAST_SIGNAL}
use Rattle.trace_pages.specs.FlatMemory.{FlatMemory, Full, byte_at, run_end}
use Rattle.trace_record.specs.Content.{Content}
use Rattle.trace_regs.specs.declared.regs.Regs.{Regs}
use Rattle.trace_record.specs.declared.resume.Kind.{Kind}
use Rattle.trace_record.specs.declared.resume.Resume.{Resume as Restart}
use Rattle.stop_history.specs.declared.roster.Row.{Row}
use Rattle.stop_history.specs.Roster.{row_of}
use Rattle.stop_table.specs.Entry.{Entry, resume_of}
use Rattle.stop_table.specs.Handle.{EndsWith}
use Rattle.stop_table.specs.Tracer.{is_held}
use Rattle.stop_table.specs.Written.{with_bytes, with_regs}
use Rattle.trace_calls.specs.Handle.{CallsHandle, claimed_record}

-- the row of a pid; one below 0 has none
abbrev pub row_of_pid : List Row → ℤ → Option ℕ
row_of_pid rows (pos tid) = row_of rows tid
row_of_pid rows (negsuc n) = None

-- the row of a pid, which the caller has claimed
abbrev pub HasClaimed : CallsHandle → ℤ → ℕ → Type 0
HasClaimed a pid row = (row_of_pid a.view.roster pid ≡ Some row) × (is_held a.view row ≡ true)

-- no row of the pid is claimed by the caller: ESRCH
abbrev pub HasNotClaimed : CallsHandle → ℤ → Type 0
HasNotClaimed a pid = (row : ℕ) → row_of_pid a.view.roster pid ≡ Some row → is_held a.view row ≡ false

-- a call that shows something of a claimed record
abbrev pub IsShownOf : {T : Type 0} → CallsHandle → ℤ → (Content → T) → Result T Errno → Type 0
IsShownOf a pid shown (Ok answer) = (row : ℕ) × HasClaimed a pid row × (answer ≡ shown (claimed_record a row))
IsShownOf a pid shown (Err errno.ESRCH) = HasNotClaimed a pid
IsShownOf a pid shown (Err errno.EINVAL) = ⊥
IsShownOf a pid shown (Err errno.ECHILD) = ⊥
IsShownOf a pid shown (Err errno.EIO) = ⊥

-- ---- restarts

-- no signal is 0
abbrev pub restart_of : Kind → Option ℕ → Restart
restart_of kind signal = record { kind = kind; signal = unwrap_or signal 0 }

-- the stop that was claimed is resumed, with the record as it is now
abbrev pub IsRestart : CallsHandle → CallsHandle → ℤ → Kind → Option ℕ → Result (Unit {0}) Errno → Type 0
IsRestart a b pid kind signal (Ok done) =
    ((row : ℕ) × HasClaimed a pid row
    × ((before : List Entry) × EndsWith a.view b.view before
    (resume_of row (claimed_record a row).number (restart_of kind signal) a.view.number (claimed_record a row)))
    × (b.records ≡ slice_set a.records row None))
    × (unwrap_or signal 0 ≤ LAST_SIGNAL) × (b.counts ≡ a.counts)
IsRestart a b pid kind signal (Err errno.ESRCH) = HasNotClaimed a pid × (b ≡ a)
IsRestart a b pid kind signal (Err errno.EIO) =
    ((row : ℕ) × HasClaimed a pid row) × (LAST_SIGNAL < unwrap_or signal 0) × (b ≡ a)
IsRestart a b pid kind signal (Err errno.EINVAL) = ⊥
IsRestart a b pid kind signal (Err errno.ECHILD) = ⊥

-- ---- memory

-- a word is eight bytes, the lowest first
abbrev pub WORD : ℕ
WORD = 8

-- all bytes of the word at an address are mapped, and these are its bits
pub record IsWordAt (memory : FlatMemory) (address bits : ℕ) : Type 0 where
  pub bytes : List ℕ
  pub long : length bytes ≡ WORD
  pub within : address + WORD ≤ 2 ^ 64
  pub mapped : EachIndex bytes (λ k. byte_at memory (address + k) ≡ Some (slice_index bytes k))
  pub is_word : bits ≡ from_le_bytes w64 bytes

-- one of its bytes is not mapped, or after the last address
abbrev pub IsAbsentAt : FlatMemory → (address : ℕ) → Type 0
IsAbsentAt memory address =
    (k : ℕ) × (k < WORD) × ((byte_at memory (address + k) ≡ None) ⊎ (2 ^ 64 ≤ address + k))

abbrev pub IsWordRead : CallsHandle → ℤ → ℕ → Result ℤ Errno → Type 0
IsWordRead a pid address (Ok word) =
    (row : ℕ) × HasClaimed a pid row
    × ((bits : ℕ) × IsWordAt (claimed_record a row).memory address bits × (word ≡ cast_signed w64 bits))
IsWordRead a pid address (Err errno.ESRCH) = HasNotClaimed a pid
IsWordRead a pid address (Err errno.EIO) =
    (row : ℕ) × HasClaimed a pid row × IsAbsentAt (claimed_record a row).memory address
IsWordRead a pid address (Err errno.EINVAL) = ⊥
IsWordRead a pid address (Err errno.ECHILD) = ⊥

-- ---- writes

-- the caller, once it has written to the record of a row that it has claimed
abbrev pub with_record : CallsHandle → ℕ → Content → CallsHandle
with_record a row content = record {
  table_id = a.table_id;
  view = a.view;
  counts = a.counts;
  records = slice_set a.records row (Some content);
}

-- the registers of a claimed record are these, and nothing else has changed
abbrev pub IsRegsWrite : CallsHandle → CallsHandle → ℤ → Regs → Result (Unit {0}) Errno → Type 0
IsRegsWrite a b pid regs (Ok done) =
    (row : ℕ) × HasClaimed a pid row × (b ≡ with_record a row (with_regs (claimed_record a row) regs))
IsRegsWrite a b pid regs (Err errno.ESRCH) = HasNotClaimed a pid × (b ≡ a)
IsRegsWrite a b pid regs (Err errno.EINVAL) = ⊥
IsRegsWrite a b pid regs (Err errno.ECHILD) = ⊥
IsRegsWrite a b pid regs (Err errno.EIO) = ⊥

-- all addresses of the bytes, from one on, are mapped, and these are the bytes there now; or nothing has changed
abbrev pub IsBytesWrite : CallsHandle → CallsHandle → ℤ → ℕ → (bytes : List ℕ) → Result (Unit {0}) Errno → Type 0
IsBytesWrite a b pid address bytes (Ok done) =
    (row : ℕ) × HasClaimed a pid row × (run_end (claimed_record a row).memory address (length bytes) ≡ Full)
    × (b ≡ with_record a row (with_bytes (claimed_record a row) address bytes))
IsBytesWrite a b pid address bytes (Err errno.ESRCH) = HasNotClaimed a pid × (b ≡ a)
IsBytesWrite a b pid address bytes (Err errno.EIO) =
    ((row : ℕ) × HasClaimed a pid row × (run_end (claimed_record a row).memory address (length bytes) ≢ Full)) × (b ≡ a)
IsBytesWrite a b pid address bytes (Err errno.EINVAL) = ⊥
IsBytesWrite a b pid address bytes (Err errno.ECHILD) = ⊥

-- the bytes of a word are those of its value, the lowest first
abbrev pub IsWordWrite : CallsHandle → CallsHandle → ℤ → ℕ → (value : ℤ) → Result (Unit {0}) Errno → Type 0
IsWordWrite a b pid address value result =
    IsBytesWrite a b pid address (to_le_bytes w64 (cast_unsigned w64 value)) result
