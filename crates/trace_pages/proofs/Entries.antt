-- What a look-up finds among the entries of pages.
use Rattle.std.proofs.Common.{◌≡◌, ◌≢◌, ◌⊎◌, ℕ, suc, ◌+◌, ◌-◌, ◌<◌, ◌≤◌, true, false, Some, List, [], ◌∷◌, ◌++◌}
use Rattle.std.proofs.Common.{length, get_or, inl, inr, refl, arith}
use Rattle.std.specs.Ordering.{nat_cmp, eq_by_cmp}
use Rattle.std.specs.FinMap.{find}
use Rattle.std.proofs.lemmas.Bool.Decides.{eqb_tells, nat_tests}
use Rattle.trace_pages.specs.Pages.{page_entries}

pub tie_same : (x y : ℕ) → x ≡ y → eq_by_cmp nat_cmp x y ≡ true
tie_same x y same = grind (arith, nat_tests)

pub tie_other : (x y : ℕ) → x ≢ y → eq_by_cmp nat_cmp x y ≡ false
tie_other x y other = grind (arith, nat_tests)

pub find_here : (q k v : ℕ) (es : List (ℕ × ℕ)) → q ≡ k → find nat_cmp q ((k, v) ∷ es) ≡ Some v
find_here q k v es same = rw (tie_same q k same) refl

pub find_past : (q k v : ℕ) (es : List (ℕ × ℕ)) → q ≢ k → find nat_cmp q ((k, v) ∷ es) ≡ find nat_cmp q es
find_past q k v es other = rw (tie_other q k other) refl

-- an address of a page
pub find_on_page : (bytes : List ℕ) (page : ℕ) (es : List (ℕ × ℕ)) (q : ℕ) → page ≤ q → q < page + length bytes
    → find nat_cmp q (page_entries page bytes ++ es) ≡ Some (get_or bytes (q - page) 0)
unfolding page_entries
find_on_page [] page es q low high = absurd (omega arith)
find_on_page (byte ∷ bytes) page es q low high =
    elim (eqb_tells q page) as (λ _. find nat_cmp q (page_entries page (byte ∷ bytes) ++ es)
    ≡ Some (get_or (byte ∷ bytes) (q - page) 0)) [
      | inl same ↦
          let first : q - page ≡ 0 = omega (arith, same.1) in
          rw first (find_here q page byte (page_entries (page + 1) bytes ++ es) same.1)
      | inr other ↦
          let later : q - page ≡ suc (q - (page + 1)) = omega (arith, other.1) in
          rw (later, find_past q page byte (page_entries (page + 1) bytes ++ es) other.1)
          (find_on_page bytes (page + 1) es q (omega (arith, other.1)) (omega arith))
    ]

-- an address of no byte of a page
pub find_off_page : (bytes : List ℕ) (page : ℕ) (es : List (ℕ × ℕ)) (q : ℕ) → (q < page) ⊎ (page + length bytes ≤ q)
    → find nat_cmp q (page_entries page bytes ++ es) ≡ find nat_cmp q es
unfolding page_entries
find_off_page [] page es q off = refl
find_off_page (byte ∷ bytes) page es q (inl low) =
    let other : q ≢ page = omega arith in
    rw (find_past q page byte (page_entries (page + 1) bytes ++ es) other)
    (find_off_page bytes (page + 1) es q (inl (omega arith)))
find_off_page (byte ∷ bytes) page es q (inr high) =
    let other : q ≢ page = omega arith in
    rw (find_past q page byte (page_entries (page + 1) bytes ++ es) other)
    (find_off_page bytes (page + 1) es q (inr (omega arith)))
