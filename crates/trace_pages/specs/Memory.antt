-- What the calls on a tracee's memory return.
use Rattle.std.specs.Prelude.{ℕ, ◌-◌, ◌*◌, ◌^◌, is_some, nat_le, if◌then◌else◌, Option, Some, None, Result, Ok, Err}
use Rattle.std.specs.FinMap as finite
use Rattle.trace_pages.specs.FlatMemory.{FlatMemory, RunEnd, Full, Absent, Top, byte_at}
use Rattle.trace_pages.specs.declared.fault.Fault.{Fault}
use Rattle.trace_pages.specs.declared.map_error.MapError.{MapError}
use Rattle.trace_pages.specs.declared.map_error.MapError.TheVariants.{Mapped, TooMany}
use Rattle.trace_pages.specs.declared.pages.TheConstants.{MOST_PAGES, PAGE_SIZE}

-- why a page is not mapped, the first reason first: it is there, or there are as many pages as there can be
abbrev pub map_refusal : FlatMemory → ℕ → Option MapError
map_refusal memory page =
    if is_some (byte_at memory page) then Some Mapped
    else if nat_le (MOST_PAGES * PAGE_SIZE) (finite.len memory) then Some TooMany
    else None

-- a store is done where the run of its addresses is whole, and otherwise faults where the run ends
abbrev pub store_answer : RunEnd → Result (Unit {0}) Fault
store_answer Full = Ok tt
store_answer (Absent address) = Err (record { addr = address })
store_answer Top = Err (record { addr = 2 ^ 64 - 1 })
