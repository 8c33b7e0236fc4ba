-- Arrays of struct iovec in flat memory (process_vm_readv(2)).
use Rattle.std.specs.Prelude.{◌+◌, ◌*◌, ℕ, List, [], ◌∷◌, take, drop, map}
use Rattle.std.specs.Int.{w64, from_le_bytes}
use Rattle.std.specs.List.{range_with_len}
use Rattle.trace_pages.specs.FlatMemory as flat
use Rattle.trace_pages.specs.FlatMemory.{FlatMemory, RunEnd, run, run_end}
use Rattle.mem_views.specs.declared.end.End.TheVariants as ended
use Rattle.mem_views.specs.declared.iovecs.Item.{Item}
use Rattle.mem_views.specs.declared.iovecs.Item.TheVariants.{Iov, Broken}
use Rattle.mem_views.specs.declared.iovecs.TheConstants.{ENTRY_SIZE}

-- an entry by its run: two little-endian numbers of 8 bytes, iov_base and iov_len, or the end of a run that lacks bytes
abbrev pub entry_by : RunEnd → List ℕ → Item
entry_by flat.Full bytes = Iov (from_le_bytes w64 (take 8 bytes)) (from_le_bytes w64 (drop 8 bytes))
entry_by (flat.Absent address) bytes = Broken (ended.Fault address)
entry_by flat.Top bytes = Broken ended.Top

-- the entry at an index, from 0
abbrev pub entry_at : FlatMemory → ℕ → ℕ → Item
entry_at memory address index =
    let start = address + index * ENTRY_SIZE in
    entry_by (run_end memory start ENTRY_SIZE) (run memory start ENTRY_SIZE)

-- the items up to the first broken one, which is the last of them
abbrev pub until_broken : List Item → List Item
until_broken [] = []
until_broken (Iov base len ∷ items) = Iov base len ∷ until_broken items
until_broken (Broken e ∷ items) = Broken e ∷ []

-- the items of an array with this many entries
abbrev pub iovec_items : FlatMemory → ℕ → ℕ → List Item
iovec_items memory address count = until_broken (map (entry_at memory address) (range_with_len 0 count))
