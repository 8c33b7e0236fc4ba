-- Addresses, the pages that they are on, and runs of them: for whoever asks whether an address is one of a run
-- (`is_in_span`), or computes with the page of an address.
use Rattle.std.proofs.Common.{◌≡◌, ◌⊎◌, ℕ, ◌+◌, ◌%◌, ◌<◌, ◌≤◌, true, false, inl, inr, arith}
use Rattle.std.proofs.lemmas.Bool.Decides.{nat_tests}
use Rattle.std.proofs.lemmas.Bool.{cases_lt}
use Rattle.trace_pages.specs.FlatMemory.{is_in_span}
use Rattle.trace_pages.specs.Pages.{base_of}

pub among_yes : (from count address : ℕ) → from ≤ address → address < from + count
    → is_in_span from count address ≡ true
among_yes from count address low high = grind (arith, nat_tests)

pub among_below : (from count address : ℕ) → address < from → is_in_span from count address ≡ false
among_below from count address low = grind (arith, nat_tests)

pub among_above : (from count address : ℕ) → from + count ≤ address → is_in_span from count address ≡ false
among_above from count address high = grind (arith, nat_tests)

-- an address is among some, or before them, or after them
pub among_cases : (from count address : ℕ) → ((from ≤ address) × (address < from + count))
    ⊎ (is_in_span from count address ≡ false)
among_cases from count address = elim (cases_lt address from) [
  | inl below ↦ inr (among_below from count address below)
  | inr above ↦ elim (cases_lt address (from + count)) [
    | inl inside ↦ inl (above, inside)
    | inr past ↦ inr (among_above from count address past)
  ]
]

-- an address that is further on in a page
pub base_on : (address k : ℕ) → address % 4096 + k < 4096 → base_of (address + k) ≡ base_of address
base_on address k within = omega arith

pub offset_on : (address k : ℕ) → address % 4096 + k < 4096 → (address + k) % 4096 ≡ address % 4096 + k
offset_on address k within = omega arith

-- two addresses of one page
pub same_page : (a b : ℕ) → base_of a ≡ base_of b → a + b % 4096 ≡ b + a % 4096
same_page a b same = omega arith

-- the addresses of a page are those that begin there
pub base-page : (page address : ℕ) → page % 4096 ≡ 0 → page ≤ address → address < page + 4096 → base_of address ≡ page
base-page page address whole low high = omega arith

pub page-base : (page address : ℕ) → base_of address ≡ page → (page ≤ address) × (address < page + 4096)
page-base page address same = (omega arith, omega arith)
