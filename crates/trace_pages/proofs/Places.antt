-- Where a byte of memory is kept.
use Rattle.std.proofs.Common.{◌≡◌, ◌≢◌, ◌⊎◌, ℕ, zero, suc, ◌+◌, ◌-◌, ◌%◌, ◌<◌, ◌≤◌, Some, None, List, [], ◌∷◌}
use Rattle.std.proofs.Common.{length, get_or, drop, inl, inr, refl, sym, ap, ◌∙◌, arith}
use Rattle.std.specs.Ordering.{nat_cmp}
use Rattle.std.specs.Cmp.{nat_cmp_total}
use Rattle.std.specs.FinMap.{find, get-from_entries}
use Rattle.std.proofs.lemmas.Bool.{cases_lt}
use Rattle.std.proofs.lemmas.Bool.Decides.{eqb_tells}
use Rattle.std.proofs.lemmas.List.{length-drop, get_or-drop}
use Rattle.trace_pages.specs.FlatMemory.{IsPiece, byte_at}
use Rattle.trace_pages.specs.Pages.{ArePages, AreRising, HasNoPage, IsPagePlace, base_of, entries_of, flat_of}
use Rattle.trace_pages.proofs.Among.{base-page, base_on, offset_on, page-base}
use Rattle.trace_pages.proofs.Entries.{find_on_page, find_off_page}

-- each page begins at a multiple of 4096; no two are the same; each address has a page of 4096 bytes
abbrev pub AreWhole : List ℕ → Type 0
AreWhole addresses = (k : ℕ) → k < length addresses → get_or addresses k 0 % 4096 ≡ 0

abbrev pub AreApart : List ℕ → Type 0
AreApart addresses = (i k : ℕ) → i < k → k < length addresses → get_or addresses i 0 ≢ get_or addresses k 0

abbrev pub AreLong : List (List ℕ) → Type 0
AreLong pages = (k : ℕ) → k < length pages → length (get_or pages k []) ≡ 4096

pub AreApart-rising : (addresses : List ℕ) → AreRising addresses → AreApart addresses
AreApart-rising addresses rising i k h l = λ same. absurd (omega (arith, rising i k h l))

-- an address is of no page
abbrev pub IsAbsent : List ℕ → ℕ → Type 0
IsAbsent addresses a = (k : ℕ) → k < length addresses → get_or addresses k 0 ≢ base_of a

pub HasNoPage-absent : (addresses : List ℕ) (a place : ℕ) → HasNoPage addresses a place → IsAbsent addresses a
HasNoPage-absent addresses a place gap k h = elim (cases_lt k place) [
  | inl below ↦ λ same. absurd (omega (arith, gap.1 k below))
  | inr above ↦ λ same. absurd (omega (arith, gap.2 k above h))
]

-- an address of another page
off_page : (page address : ℕ) → page % 4096 ≡ 0 → page ≢ base_of address → (address < page) ⊎ (page + 4096 ≤ address)
off_page page address whole other = elim (cases_lt address page) [
  | inl below ↦ inl below
  | inr above ↦ elim (cases_lt address (page + 4096)) [
    | inl inside ↦ absurd (other (sym (base-page page address whole above inside)))
    | inr past ↦ inr past
  ]
]

entries_found : (addresses : List ℕ) (pages : List (List ℕ)) (i a : ℕ) → AreWhole addresses → AreApart addresses
    → length pages ≡ length addresses → AreLong pages → i < length addresses → get_or addresses i 0 ≡ base_of a
    → find nat_cmp a (entries_of addresses pages) ≡ Some (get_or (get_or pages i []) (a % 4096) 0)
unfolding entries_of
entries_found [] pages i a whole apart paired long inside same = absurd (omega arith)
entries_found (address ∷ addresses) [] i a whole apart paired long inside same = absurd (omega arith)
entries_found (address ∷ addresses) (page ∷ pages) zero a whole apart paired long inside same =
    let on : (address ≤ a) × (a < address + 4096) = page-base address a (sym same) in
    let full : length page ≡ 4096 = long 0 (omega arith) in
    let place : a - address ≡ a % 4096 = omega (arith, same) in
    find_on_page page address (entries_of addresses pages) a on.0 (omega (arith, full))
    ∙ ap (λ (k : ℕ). Some (get_or page k 0)) place
entries_found (address ∷ addresses) (page ∷ pages) (suc i) a whole apart paired long inside same =
    let full : length page ≡ 4096 = long 0 (omega arith) in
    let other : address ≢ base_of a = λ here. apart 0 (suc i) (omega arith) inside (here ∙ sym same) in
    let past : (a < address) ⊎ (address + length page ≤ a) =
    rw full (off_page address a (whole 0 (omega arith)) other) in
    find_off_page page address (entries_of addresses pages) a past
    ∙ entries_found addresses pages i a (λ k h. whole (suc k) (omega arith))
    (λ j k h l. apart (suc j) (suc k) (omega arith) (omega arith)) (omega arith)
    (λ k h. long (suc k) (omega arith)) (omega arith) same

pub entries_absent : (addresses : List ℕ) (pages : List (List ℕ)) (a : ℕ) → AreWhole addresses
    → length pages ≡ length addresses → AreLong pages → IsAbsent addresses a
    → find nat_cmp a (entries_of addresses pages) ≡ None
unfolding entries_of
entries_absent [] pages a whole paired long absent = refl
entries_absent (address ∷ addresses) [] a whole paired long absent = absurd (omega arith)
entries_absent (address ∷ addresses) (page ∷ pages) a whole paired long absent =
    let full : length page ≡ 4096 = long 0 (omega arith) in
    let past : (a < address) ⊎ (address + length page ≤ a) =
    rw full (off_page address a (whole 0 (omega arith)) (absent 0 (omega arith))) in
    find_off_page page address (entries_of addresses pages) a past
    ∙ entries_absent addresses pages a (λ k h. whole (suc k) (omega arith)) (omega arith)
    (λ k h. long (suc k) (omega arith)) (λ k h. absent (suc k) (omega arith))

-- the byte at an address of the i-th page
pub byte_at-found : (addresses : List ℕ) (pages : List (List ℕ)) → ArePages addresses pages → (i a : ℕ)
    → i < length addresses → get_or addresses i 0 ≡ base_of a
    → byte_at (flat_of addresses pages) a ≡ Some (get_or (get_or pages i []) (a % 4096) 0)
unfolding flat_of
byte_at-found addresses pages kept i a inside same =
    get-from_entries nat_cmp_total (entries_of addresses pages) a
    ∙ entries_found addresses pages i a kept.whole (AreApart-rising addresses kept.rising) kept.paired kept.long
    inside same

-- an address of no page
pub byte_at-absent : (addresses : List ℕ) (pages : List (List ℕ)) → ArePages addresses pages → (a : ℕ)
    → IsAbsent addresses a → byte_at (flat_of addresses pages) a ≡ None
unfolding flat_of
byte_at-absent addresses pages kept a absent =
    get-from_entries nat_cmp_total (entries_of addresses pages) a
    ∙ entries_absent addresses pages a kept.whole kept.paired kept.long absent

-- an address is of some page, or of none
abbrev pub IsKept : List ℕ → ℕ → Type 0
IsKept addresses a = (i : ℕ) × IsPagePlace addresses a i

pub place_cases : (addresses : List ℕ) (a : ℕ) → IsKept addresses a ⊎ IsAbsent addresses a
place_cases [] a = inr (λ k h. absurd (omega arith))
place_cases (address ∷ addresses) a = elim (eqb_tells address (base_of a)) [
  | inl here ↦ inl (0, (omega arith, here.1))
  | inr other ↦ elim (place_cases addresses a) [
    | inl later ↦ inl (suc later.0, (omega (arith, later.1.0), later.1.1))
    | inr none ↦ inr (absent_more address addresses a other.1 none)
  ]
]
  where
    absent_more : (address : ℕ) (addresses : List ℕ) (a : ℕ) → address ≢ base_of a → IsAbsent addresses a
        → IsAbsent (address ∷ addresses) a
    absent_more address addresses a other none zero h = other
    absent_more address addresses a other none (suc k) h = none k (omega arith)

-- the part of a page from an address on
pub IsPiece-rest : (addresses : List ℕ) (pages : List (List ℕ)) → ArePages addresses pages → (place address : ℕ)
    → place < length addresses → get_or addresses place 0 ≡ base_of address
    → IsPiece (flat_of addresses pages) address (drop (address % 4096) (get_or pages place []))
IsPiece-rest addresses pages kept place address inside same =
    let page = get_or pages place [] in
    let full : length page ≡ 4096 = kept.long place (omega (arith, kept.paired)) in
    let long : length (drop (address % 4096) page) ≡ length page - address % 4096 = length-drop (address % 4096) page in
    record {
      to_page_end = omega (arith, long, full);
      bytes = λ k h.
          let within : address % 4096 + k < 4096 = omega (arith, long, full) in
          byte_at-found addresses pages kept place (address + k) inside (same ∙ sym (base_on address k within))
          ∙ ap (λ (j : ℕ). Some (get_or page j 0)) (offset_on address k within)
          ∙ ap (λ (byte : ℕ). Some byte) (sym (get_or-drop (address % 4096) page k 0));
    }
