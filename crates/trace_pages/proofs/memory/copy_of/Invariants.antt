-- The pages so far are copied.
use Rattle.std.proofs.Common.{◌≡◌, take}
use Rattle.trace_pages.proofs.memory.copy_of.Given as goal

abbrev pub invariant-loop-page : goal.invariant-loop-page
invariant-loop-page g l = l.copy.items ≡ take l.page-index l.pages
