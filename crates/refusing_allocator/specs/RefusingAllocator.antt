-- What a refusing allocator holds.
use Rattle.refusing_allocator.specs.declared.refusing_allocator.RefusingAllocator.{RefusingAllocator}

-- the allocator that it passes each call on to, and that each of its blocks is of
abbrev pub inner_of : {B : Type 0} → RefusingAllocator B → B
inner_of heap = heap.inner
