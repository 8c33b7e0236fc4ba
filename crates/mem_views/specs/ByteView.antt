-- Byte views and string views: what they show of flat memory, and in which pieces.
use Rattle.std.specs.Prelude.{◌≡◌, ◌<◌, ◌≤◌, ◌+◌, ◌%◌, ◌++◌, ◌==◌, ◌⊎◌, ℕ, Bool, Option, Some, None, List, [], ◌∷◌}
use Rattle.std.specs.Prelude.{length, take, position}
use Rattle.trace_pages.specs.FlatMemory as flat
use Rattle.trace_pages.specs.FlatMemory.{FlatMemory, RunEnd, run, run_end}
use Rattle.trace_pages.specs.declared.pages.TheConstants.{PAGE_SIZE}
use Rattle.mem_views.specs.declared.end.End.{End}
use Rattle.mem_views.specs.declared.end.End.TheVariants as ended

-- a byte view: the address of its next byte, the bytes that have not been taken, and the length and the end of the
-- whole view
pub record Cut : Type 0 where
  pub at : ℕ
  pub rest : List ℕ
  pub len : ℕ
  pub end : End

-- one of which nothing has been taken
abbrev pub cut_of : ℕ → List ℕ → End → Cut
cut_of address bytes e = record { at = address; rest = bytes; len = length bytes; end = e }

-- ---- the bytes from an address on, at most this many: the run, and where it ends
abbrev pub bytes_end : RunEnd → End
bytes_end flat.Full = ended.Full
bytes_end (flat.Absent address) = ended.Fault address
bytes_end flat.Top = ended.Top

abbrev pub cut_bytes : FlatMemory → ℕ → ℕ → Cut
cut_bytes memory address count = cut_of address (run memory address count) (bytes_end (run_end memory address count))

-- ---- the string at an address (strace(1)): of the run of at most this many bytes those before the first zero, or
-- all of them where none is zero
abbrev pub string_end : RunEnd → End
string_end flat.Full = ended.Limit
string_end (flat.Absent address) = ended.Fault address
string_end flat.Top = ended.Top

abbrev pub cut_before : ℕ → List ℕ → RunEnd → Option ℕ → Cut
cut_before address bytes e (Some place) = cut_of address (take place bytes) ended.Nul
cut_before address bytes e None = cut_of address bytes (string_end e)

abbrev pub is_zero : ℕ → Bool
is_zero byte = byte == 0

abbrev pub cut_c_string : FlatMemory → ℕ → ℕ → Cut
cut_c_string memory address limit =
    let bytes = run memory address limit in
    cut_before address bytes (run_end memory address limit) (position is_zero bytes)

-- ---- the pieces of a view

-- the next piece: it begins what is left, is not empty and lies in one page, and unless it is the last one it ends
-- where its page ends. What is left goes on behind it, and the length and the end stay those of the whole view
pub record Gives (old new : Cut) (piece : List ℕ) : Type 0 where
  pub front : old.rest ≡ piece ++ new.rest
  pub some : 0 < length piece
  pub in_page : old.at % PAGE_SIZE + length piece ≤ PAGE_SIZE
  pub on : (new.rest ≡ []) ⊎ ((new.at ≡ old.at + length piece) × (new.at % PAGE_SIZE ≡ 0))
  pub len : new.len ≡ old.len
  pub end : new.end ≡ old.end

-- these are the pieces of what is left, the first one first
abbrev pub ArePieces : Cut → List (List ℕ) → Type 0
ArePieces cut [] = cut.rest ≡ []
ArePieces cut (piece ∷ pieces) = (next : Cut) × Gives cut next piece × ArePieces next pieces
