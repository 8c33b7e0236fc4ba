-- Flat memory: a finite map from address to byte. An address is a number below 2^64.
use Rattle.std.specs.Prelude.{◌≡◌, ◌+◌, ◌-◌, ◌%◌, ◌^◌, ℕ, Bool, ◌&&◌, is_some, nat_lt, nat_le, if◌then◌else◌}
use Rattle.std.specs.Prelude.{Option, Some, None, List, [], ◌∷◌, zero, suc, length, replicate, slice_index, EachIndex}
use Rattle.std.specs.Coded.{Coded, coded_ℕ}
use Rattle.std.specs.Ordering.{nat_cmp}
use Rattle.std.specs.FinMap as finite
use Rattle.trace_pages.specs.declared.pages.TheConstants.{PAGE_SIZE}

abbrev pub FlatMemory : Type 0
FlatMemory = finite.FinMap nat_cmp ℕ

-- its code, for the Model of what holds one
abbrev pub flat_code : Coded FlatMemory
flat_code = finite.code coded_ℕ coded_ℕ

-- the byte at an address, where one is mapped
abbrev pub byte_at : FlatMemory → ℕ → Option ℕ
byte_at memory address = finite.get memory address

-- ---- a run of bytes from an address on: at most this many, ended at the first address that is not mapped or after
-- address 2^64 - 1

-- a byte and what follows it, or nothing where no byte is
abbrev pub begun : Option ℕ → List ℕ → List ℕ
begun None rest = []
begun (Some byte) rest = byte ∷ rest

unfoldable pub run : FlatMemory → ℕ → ℕ → List ℕ
run memory address zero = []
run memory address (suc more) =
    if nat_lt address (2 ^ 64) then begun (byte_at memory address) (run memory (address + 1) more) else []

-- where a run ends: it has all the bytes, an address is not mapped, or the address space is at its end
pub data RunEnd : Type 0 where
  Full : RunEnd
  Absent : (address : ℕ) → RunEnd
  Top : RunEnd

-- the end of what follows a byte, or the address where no byte is
abbrev pub end_from : ℕ → Option ℕ → RunEnd → RunEnd
end_from address None rest = Absent address
end_from address (Some byte) rest = rest

unfoldable pub run_end : FlatMemory → ℕ → ℕ → RunEnd
run_end memory address zero = Full
run_end memory address (suc more) =
    if nat_lt address (2 ^ 64) then end_from address (byte_at memory address) (run_end memory (address + 1) more)
    else Top

-- ---- what a change leaves at each address

-- an address is one of this many from another on
abbrev pub is_in_span : ℕ → ℕ → ℕ → Bool
is_in_span from count address = nat_le from address && nat_lt address (from + count)

-- the byte there after a page of zeros was mapped
abbrev pub byte_after_map : FlatMemory → ℕ → ℕ → Option ℕ
byte_after_map before page address = if is_in_span page PAGE_SIZE address then Some 0 else byte_at before address

-- the byte there after bytes were stored from an address on
abbrev pub byte_after_store : FlatMemory → ℕ → List ℕ → ℕ → Option ℕ
byte_after_store before at bytes address =
    if is_in_span at (length bytes) address then Some (slice_index bytes (address - at)) else byte_at before address

-- these are the changes, and the only ones
abbrev pub MapsPage : FlatMemory → FlatMemory → ℕ → Type 0
MapsPage before after page = (address : ℕ) → byte_at after address ≡ byte_after_map before page address

abbrev pub StoresBytes : FlatMemory → FlatMemory → ℕ → List ℕ → Type 0
StoresBytes before after at bytes = (address : ℕ) → byte_at after address ≡ byte_after_store before at bytes address

-- ---- the memory that a change leaves

-- the memory with bytes stored from an address on
unfoldable pub stored : FlatMemory → ℕ → List ℕ → FlatMemory
stored memory at [] = memory
stored memory at (byte ∷ bytes) = finite.insert (stored memory (at + 1) bytes) at byte

unfoldable pub zeros : ℕ → List ℕ
zeros count = replicate count 0

-- the memory with a page of zeros mapped
abbrev pub mapped : FlatMemory → ℕ → FlatMemory
mapped memory page = stored memory page (zeros PAGE_SIZE)

-- two memories have bytes at the same addresses
abbrev pub SameAddresses : FlatMemory → FlatMemory → Type 0
SameAddresses memory other = (address : ℕ) → is_some (byte_at memory address) ≡ is_some (byte_at other address)

-- ---- the bytes from an address to the end of its page
pub record IsPiece (memory : FlatMemory) (address : ℕ) (piece : List ℕ) : Type 0 where
  pub to_page_end : length piece + address % PAGE_SIZE ≡ PAGE_SIZE
  pub bytes : EachIndex piece (λ k. byte_at memory (address + k) ≡ Some (slice_index piece k))
