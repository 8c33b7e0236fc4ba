-- How many bytes memory has.
use Rattle.std.proofs.Common.{◌≡◌, ℕ, suc, ◌+◌, ◌*◌, ◌<◌, ◌≤◌, None, List, [], ◌∷◌, ◌++◌, length, refl, inl}
use Rattle.std.proofs.Common.{sym, ◌∙◌, arith}
use Rattle.std.specs.Ordering.{nat_cmp}
use Rattle.std.specs.Cmp.{nat_cmp_total}
use Rattle.std.specs.FinMap.{find, get, len, from_entries, get-from_entries, len-insert, len-empty, empty}
use Rattle.trace_pages.specs.Pages.{ArePages, entries_of, flat_of, page_entries}
use Rattle.trace_pages.proofs.Among.{base-page}
use Rattle.trace_pages.proofs.Entries.{find_off_page}
use Rattle.trace_pages.proofs.Places.{AreApart, AreApart-rising, AreLong, AreWhole, entries_absent}

-- a page of which no address is among the other entries adds its bytes
len-page : (bytes : List ℕ) (page : ℕ) (es : List (ℕ × ℕ))
    → ((q : ℕ) → page ≤ q → q < page + length bytes → find nat_cmp q es ≡ None)
    → len (from_entries {R = nat_cmp} (page_entries page bytes ++ es))
    ≡ length bytes + len (from_entries {R = nat_cmp} es)
unfolding page_entries
len-page [] page es apart = omega arith
len-page (byte ∷ bytes) page es apart =
    let rest : List (ℕ × ℕ) = page_entries (page + 1) bytes ++ es in
    let none : get (from_entries {R = nat_cmp} rest) page ≡ None =
    get-from_entries nat_cmp_total rest page ∙ find_off_page bytes (page + 1) es page (inl (omega arith))
    ∙ apart page (omega arith) (omega arith) in
    let more : len (from_entries {R = nat_cmp} rest) ≡ length bytes + len (from_entries {R = nat_cmp} es) =
    len-page bytes (page + 1) es (λ q low high. apart q (omega arith) (omega arith)) in
    len-insert nat_cmp_total (from_entries rest) page byte ∙ rw none (omega (arith, more))

len-entries : (addresses : List ℕ) (pages : List (List ℕ)) → AreWhole addresses → AreApart addresses
    → length pages ≡ length addresses → AreLong pages
    → len (from_entries {R = nat_cmp} (entries_of addresses pages)) ≡ 4096 * length addresses
unfolding entries_of
len-entries [] pages whole apart paired long = len-empty nat_cmp ℕ
len-entries (address ∷ addresses) [] whole apart paired long = absurd (omega arith)
len-entries (address ∷ addresses) (page ∷ pages) whole apart paired long =
    let full : length page ≡ 4096 = long 0 (omega arith) in
    let paired' : length pages ≡ length addresses = omega arith in
    let whole' : AreWhole addresses = λ k h. whole (suc k) (omega arith) in
    let long' : AreLong pages = λ k h. long (suc k) (omega arith) in
    let other : (q : ℕ) → address ≤ q → q < address + length page
    → find nat_cmp q (entries_of addresses pages) ≡ None =
    λ q low high. entries_absent addresses pages q whole' paired' long'
    (λ k h same. apart 0 (suc k) (omega arith) (omega arith)
    (sym (base-page address q (whole 0 (omega arith)) low (omega (arith, full))) ∙ sym same)) in
    let more : len (from_entries {R = nat_cmp} (entries_of addresses pages)) ≡ 4096 * length addresses =
    len-entries addresses pages whole' (λ j k h l. apart (suc j) (suc k) (omega arith) (omega arith)) paired' long' in
    len-page page address (entries_of addresses pages) other ∙ omega (arith, full, more)

pub len-flat_of : (addresses : List ℕ) (pages : List (List ℕ)) → ArePages addresses pages
    → len (flat_of addresses pages) ≡ 4096 * length addresses
unfolding flat_of
len-flat_of addresses pages kept =
    len-entries addresses pages kept.whole (AreApart-rising addresses kept.rising) kept.paired kept.long

-- no pages are no memory
pub flat_of-none : flat_of [] [] ≡ empty
unfolding flat_of entries_of
flat_of-none = refl
