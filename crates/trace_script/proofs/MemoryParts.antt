-- Memory as parts, with one part more: its bytes come after those of all parts before it.
use Rattle.std.proofs.Common.{refl, ◌≡◌, ◌+◌, ◌++◌, ◌∷◌, [], ℕ, List, length, take, drop, ap, sym, subst}
use Rattle.std.proofs.Common.{◌∙◌, arith}
use Rattle.std.specs.FinMap as finite
use Rattle.std.proofs.lemmas.List.{drop-append-le, length-append, length-drop, take-append-le, take_all}
use Rattle.trace_pages.specs.FlatMemory.{FlatMemory}
use Rattle.trace_script.specs.declared.script.memory_parts.MemoryPart.{MemoryPart}
use Rattle.trace_script.specs.MemoryParts.{AreParts, CanAllFollow, CanFollow, bytes_in_parts, memory_of_parts}
use Rattle.trace_script.specs.MemoryParts.{content_size, part_added, with_parts}

abbrev size_of : MemoryPart → ℕ
size_of part = content_size part.content

-- the memory with the first part, by its own bytes
abbrev first_added : FlatMemory → MemoryPart → List ℕ → FlatMemory
first_added m part bytes = part_added part.content m part.addr (take (size_of part) bytes)

-- the bytes of the first part, and those of the others, with more bytes at the end
first_bytes : (part : MemoryPart) (parts : List MemoryPart) (bytes more : List ℕ)
    → bytes_in_parts (part ∷ parts) ≡ length bytes → take (size_of part) (bytes ++ more) ≡ take (size_of part) bytes
first_bytes part parts bytes more sized = take-append-le (size_of part) bytes more (omega (arith, sized))

other_bytes : (part : MemoryPart) (parts : List MemoryPart) (bytes more : List ℕ)
    → bytes_in_parts (part ∷ parts) ≡ length bytes
    → drop (size_of part) (bytes ++ more) ≡ drop (size_of part) bytes ++ more
other_bytes part parts bytes more sized = drop-append-le (size_of part) bytes more (omega (arith, sized))

others_sized : (part : MemoryPart) (parts : List MemoryPart) (bytes : List ℕ)
    → bytes_in_parts (part ∷ parts) ≡ length bytes → bytes_in_parts parts ≡ length (drop (size_of part) bytes)
others_sized part parts bytes sized = omega (arith, sized, length-drop (size_of part) bytes)

with_more : (m : FlatMemory) (parts : List MemoryPart) (bytes more : List ℕ) (part : MemoryPart)
    → bytes_in_parts parts ≡ length bytes
    → with_parts m (parts ++ part ∷ []) (bytes ++ more) ≡ first_added (with_parts m parts bytes) part more
with_more m [] [] more part sized = refl
with_more m [] (byte ∷ bytes) more part sized = absurd (omega (arith, sized))
with_more m (first ∷ parts) bytes more part sized =
    ap (λ own.
    with_parts (part_added first.content m first.addr own) (parts ++ part ∷ []) (drop (size_of first) (bytes ++ more)))
    (first_bytes first parts bytes more sized)
    ∙ ap (with_parts (first_added m first bytes) (parts ++ part ∷ [])) (other_bytes first parts bytes more sized)
    ∙ with_more (first_added m first bytes) parts (drop (size_of first) bytes) more part
    (others_sized first parts bytes sized)

can_follow : (m : FlatMemory) (parts : List MemoryPart) (bytes more : List ℕ) (part : MemoryPart)
    → bytes_in_parts parts ≡ length bytes → CanAllFollow m parts bytes
    → CanFollow part.content (with_parts m parts bytes) part.addr (take (size_of part) more)
    → CanAllFollow m (parts ++ part ∷ []) (bytes ++ more)
can_follow m [] [] more part sized each new = (new, tt)
can_follow m [] (byte ∷ bytes) more part sized each new = absurd (omega (arith, sized))
can_follow m (first ∷ parts) bytes more part sized each new =
    rw (first_bytes first parts bytes more sized, other_bytes first parts bytes more sized) (
      each.0,
      can_follow (first_added m first bytes) parts (drop (size_of first) bytes) more part
          (others_sized first parts bytes sized) each.1 new,
    )

sized_more : (parts : List MemoryPart) (part : MemoryPart)
    → bytes_in_parts (parts ++ part ∷ []) ≡ bytes_in_parts parts + size_of part
sized_more [] part = omega arith
sized_more (first ∷ parts) part = omega (arith, sized_more parts part)

-- ---- one part more

all_bytes : (part : MemoryPart) (more : List ℕ) → size_of part ≡ length more → take (size_of part) more ≡ more
all_bytes part more sized = take_all (size_of part) more (omega (arith, sized))

pub part_seen : (parts : List MemoryPart) (bytes more : List ℕ) (part : MemoryPart) → AreParts parts bytes
    → size_of part ≡ length more
    → memory_of_parts (parts ++ part ∷ []) (bytes ++ more)
    ≡ part_added part.content (memory_of_parts parts bytes) part.addr more
part_seen parts bytes more part are sized =
    with_more finite.empty parts bytes more part are.whole
    ∙ ap (part_added part.content (memory_of_parts parts bytes) part.addr) (all_bytes part more sized)

pub part_kept : (parts : List MemoryPart) (bytes more : List ℕ) (part : MemoryPart) → AreParts parts bytes
    → size_of part ≡ length more → CanFollow part.content (memory_of_parts parts bytes) part.addr more
    → AreParts (parts ++ part ∷ []) (bytes ++ more)
part_kept parts bytes more part are sized can = record {
  whole = omega (arith, sized_more parts part, length-append bytes more, are.whole, sized);
  each = can_follow finite.empty parts bytes more part are.whole are.each
      (subst (λ b. CanFollow part.content (memory_of_parts parts bytes) part.addr b) (sym (all_bytes part more sized))
      can);
}
