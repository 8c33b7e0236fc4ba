-- The memory of a program as parts, in the order in which a file says them: pages of zeros, and bytes from an address
-- on. Read as the memory that they make, one after the other.
use Rattle.std.specs.Prelude.{◌≡◌, ◌+◌, ◌%◌, ◌∷◌, [], ℕ, List, None, drop, length, take}
use Rattle.std.specs.FinMap as finite
use Rattle.trace_pages.specs.declared.pages.TheConstants.{PAGE_SIZE}
use Rattle.trace_pages.specs.FlatMemory.{FlatMemory, Full, mapped, run_end, stored}
use Rattle.trace_pages.specs.Memory.{map_refusal}
use Rattle.trace_script.specs.declared.script.memory_parts.MemoryPart.{MemoryPart}
use Rattle.trace_script.specs.declared.script.memory_parts.PartContent.{PartContent}
use Rattle.trace_script.specs.declared.script.memory_parts.PartContent.TheVariants as content

-- how many bytes a part has
abbrev pub content_size : PartContent → ℕ
content_size content.Page = 0
content_size (content.Bytes len) = len

-- the memory with a page more, or with bytes stored
abbrev pub part_added : PartContent → FlatMemory → (address : ℕ) → (bytes : List ℕ) → FlatMemory
part_added content.Page memory address bytes = mapped memory address
part_added (content.Bytes len) memory address bytes = stored memory address bytes

-- with parts in a row, each of which has as many of the bytes as it says
abbrev pub with_parts : FlatMemory → List MemoryPart → (bytes : List ℕ) → FlatMemory
with_parts memory [] bytes = memory
with_parts memory (part ∷ parts) bytes =
    let size = content_size part.content in
    with_parts (part_added part.content memory part.addr (take size bytes)) parts (drop size bytes)

abbrev pub memory_of_parts : List MemoryPart → (bytes : List ℕ) → FlatMemory
memory_of_parts parts bytes = with_parts finite.empty parts bytes

-- the page can be mapped, or all bytes can be stored
abbrev pub CanFollow : PartContent → FlatMemory → (address : ℕ) → (bytes : List ℕ) → Type 0
CanFollow content.Page memory address bytes = (address % PAGE_SIZE ≡ 0) × (map_refusal memory address ≡ None)
CanFollow (content.Bytes len) memory address bytes = run_end memory address (length bytes) ≡ Full

-- each part can follow those before it
abbrev pub CanAllFollow : FlatMemory → List MemoryPart → (bytes : List ℕ) → Type 0
CanAllFollow memory [] bytes = Unit {0}
CanAllFollow memory (part ∷ parts) bytes =
    let size = content_size part.content in
    CanFollow part.content memory part.addr (take size bytes)
    × CanAllFollow (part_added part.content memory part.addr (take size bytes)) parts (drop size bytes)

-- how many bytes parts have
abbrev pub bytes_in_parts : List MemoryPart → ℕ
bytes_in_parts [] = 0
bytes_in_parts (part ∷ parts) = content_size part.content + bytes_in_parts parts

pub record AreParts (parts : List MemoryPart) (bytes : List ℕ) : Type 0 where
  -- no byte is of no part
  pub whole : bytes_in_parts parts ≡ length bytes
  pub each : CanAllFollow finite.empty parts bytes
