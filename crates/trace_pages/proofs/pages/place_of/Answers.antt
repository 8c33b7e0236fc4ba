-- Addresses that rise can be searched by halves.
use Rattle.std.proofs.Common.{◌≡◌, ◌<◌, ◌≤◌, ℕ, List, length, get_or, inl, inr, arith}
use Rattle.std.proofs.lemmas.Bool.{cases_lt}
use Rattle.std.proofs.lemmas.List.Sorted.{searched}
use Rattle.trace_pages.specs.Pages.{AreRising, base_of}
use Rattle.trace_pages.proofs.pages.place_of.Goals as goal

not_falling : (addresses : List ℕ) → AreRising addresses → (i j : ℕ) → i ≤ j → j < length addresses
    → get_or addresses i 0 ≤ get_or addresses j 0
not_falling addresses rising i j le h = elim (cases_lt i j) [
  | inl below ↦ omega (arith, rising i j below h)
  | inr above ↦ let same : i ≡ j = omega arith in rw same (omega arith)
]

pub returns : goal.returns
returns c = searched c.args.addresses.now (base_of c.args.addr) c.binary_search.result c.binary_search.ensures.position
    (not_falling c.args.addresses.now c.requires)
