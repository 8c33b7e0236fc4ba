-- Pages as they are kept: their addresses in one list, in rising order, and in another, in the same order, the bytes of
-- each.
use Rattle.std.specs.Prelude.{◌≡◌, ◌+◌, ◌-◌, ◌%◌, ◌<◌, ◌≤◌, ◌++◌, ℕ, List, [], ◌∷◌, length, take, drop}
use Rattle.std.specs.Prelude.{slice_index, slice_index_or, EachIndex}
use Rattle.std.specs.FinMap as finite
use Rattle.trace_pages.specs.FlatMemory.{FlatMemory}
use Rattle.trace_pages.specs.declared.pages.TheConstants.{MOST_PAGES, PAGE_SIZE}

-- the bytes of a page, each with its address
unfoldable pub page_entries : ℕ → List ℕ → List (ℕ × ℕ)
page_entries address [] = []
page_entries address (byte ∷ bytes) = (address, byte) ∷ page_entries (address + 1) bytes

-- those of all pages
unfoldable pub entries_of : List ℕ → List (List ℕ) → List (ℕ × ℕ)
entries_of [] pages = []
entries_of (address ∷ addresses) [] = []
entries_of (address ∷ addresses) (page ∷ pages) = page_entries address page ++ entries_of addresses pages

-- the memory that the pages are
unfoldable pub flat_of : List ℕ → List (List ℕ) → FlatMemory
flat_of addresses pages = finite.from_entries (entries_of addresses pages)

-- each address is above those before it
abbrev pub AreRising : List ℕ → Type 0
AreRising addresses =
    (i k : ℕ) → i < k → k < length addresses → slice_index addresses i < slice_index addresses k

-- the page at a place
abbrev pub page_at : List (List ℕ) → ℕ → List ℕ
page_at pages k = slice_index_or pages k []

-- the lists are pages: each address is a multiple of PAGE_SIZE, they rise, there are at most MOST_PAGES, and each has
-- a page of PAGE_SIZE bytes
pub record ArePages (addresses : List ℕ) (pages : List (List ℕ)) : Type 0 where
  pub whole : EachIndex addresses (λ k. slice_index addresses k % PAGE_SIZE ≡ 0)
  pub rising : AreRising addresses
  pub few : length addresses ≤ MOST_PAGES
  pub paired : length pages ≡ length addresses
  pub long : (k : ℕ) → k < length pages → length (page_at pages k) ≡ PAGE_SIZE

-- the address at which the page of an address begins
abbrev pub base_of : ℕ → ℕ
base_of address = address - address % PAGE_SIZE

-- the place of an address's page in the list
abbrev pub IsPagePlace : List ℕ → ℕ → ℕ → Type 0
IsPagePlace addresses address place = (place < length addresses) × (slice_index addresses place ≡ base_of address)

-- the page is not there: those before this place are below it, and the others above
abbrev pub HasNoPage : List ℕ → ℕ → ℕ → Type 0
HasNoPage addresses address place =
    (place ≤ length addresses)
    × ((k : ℕ) → k < place → slice_index addresses k < base_of address)
    × ((k : ℕ) → place ≤ k → k < length addresses → base_of address < slice_index addresses k)

-- bytes took the place of others, from an index on
abbrev pub overwritten : List ℕ → ℕ → List ℕ → List ℕ
overwritten bytes from piece = take from bytes ++ (piece ++ drop (from + length piece) bytes)
