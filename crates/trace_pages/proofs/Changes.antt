-- What a change of the lists changes in memory.
use Rattle.std.proofs.Common.{◌≡◌, ◌≢◌, ◌⊎◌, ℕ, ◌+◌, ◌-◌, ◌*◌, ◌%◌, ◌<◌, ◌≤◌, true, false, Some, List, []}
use Rattle.std.proofs.Common.{◌++◌, length, get_or, set, take, drop, inl, inr, refl, sym, ap, ◌∙◌, arith}
use Rattle.std.proofs.lemmas.Bool.{cases_lt, false≢true}
use Rattle.std.proofs.lemmas.Bool.Decides.{eqb_tells}
use Rattle.std.proofs.lemmas.List.{length-append, length-drop, length-replicate, length-set, length-take-le}
use Rattle.std.proofs.lemmas.List.{get_or-append_right, get_or-drop, get_or-replicate, get_or-set_other}
use Rattle.std.proofs.lemmas.List.{get_or-set_same, get_or-take, get_or_append_left}
use Rattle.std.proofs.lemmas.List.Edits.{get_or-insert_above, get_or-insert_at, get_or-insert_below, length-insert}
use Rattle.std.specs.List.{insert}
use Rattle.std.specs.Prelude.{Result, Ok, Err, OnOk, OnErr}
use Rattle.std.specs.FinMap.{len}
use Rattle.trace_pages.specs.FlatMemory.{byte_at, byte_after_map, byte_after_store, is_in_span, zeros}
use Rattle.trace_pages.specs.Pages.{ArePages, HasNoPage, base_of, flat_of, overwritten}
use Rattle.trace_pages.proofs.Counts.{len-flat_of}
use Rattle.trace_pages.proofs.Among.{among_cases, among_yes, base-page, base_on, offset_on, page-base, same_page}
use Rattle.trace_pages.proofs.Places.{AreApart, AreApart-rising, HasNoPage-absent, IsAbsent, byte_at-absent}
use Rattle.trace_pages.proofs.Places.{byte_at-found, place_cases}

-- ---- bytes written over others
module _ (old piece : List ℕ) (from : ℕ) (within : from + length piece ≤ length old) where
  front : length (take from old) ≡ from
  front = length-take-le from old (omega arith)

  pub overwritten_length : length (overwritten old from piece) ≡ length old
  overwritten_length = omega (
    arith,
    front,
    length-append (take from old) (piece ++ drop (from + length piece) old),
    length-append piece (drop (from + length piece) old),
    length-drop (from + length piece) old,
  )

  pub overwritten_inside : (k : ℕ) → k < length piece
      → get_or (overwritten old from piece) (from + k) 0 ≡ get_or piece k 0
  overwritten_inside k h =
      let on : from + k - from ≡ k = omega arith in
      get_or-append_right (take from old) (piece ++ drop (from + length piece) old) from (from + k) 0 front (omega arith)
      ∙ ap (λ (j : ℕ). get_or (piece ++ drop (from + length piece) old) j 0) on
      ∙ get_or_append_left piece (drop (from + length piece) old) 0 k h

  pub overwritten_outside : (k : ℕ) → (k < from) ⊎ (from + length piece ≤ k)
      → get_or (overwritten old from piece) k 0 ≡ get_or old k 0
  overwritten_outside k (inl below) =
      get_or_append_left (take from old) (piece ++ drop (from + length piece) old) 0 k (omega (arith, front))
      ∙ get_or-take from old k 0 below
  overwritten_outside k (inr above) =
      let on : from + length piece + (k - from - length piece) ≡ k = omega arith in
      get_or-append_right (take from old) (piece ++ drop (from + length piece) old) from k 0 front (omega arith)
      ∙ get_or-append_right piece (drop (from + length piece) old) (length piece) (k - from) 0 refl (omega arith)
      ∙ get_or-drop (from + length piece) old (k - from - length piece) 0
      ∙ ap (λ (j : ℕ). get_or old j 0) on

-- a page is in one place
one_place : (addresses : List ℕ) (i k : ℕ) → AreApart addresses → i < length addresses → k < length addresses
    → get_or addresses i 0 ≡ get_or addresses k 0 → i ≡ k
one_place addresses i k apart hi hk same = elim (cases_lt i k) [
  | inl below ↦ absurd (apart i k below hk same)
  | inr above ↦ elim (cases_lt k i) [
    | inl over ↦ absurd (apart k i over hi (sym same))
    | inr equal ↦ omega arith
  ]
]

-- an address further on in the page of another
base_among : (addr count a : ℕ) → count + addr % 4096 ≤ 4096 → addr ≤ a → a < addr + count → (base_of a ≡ base_of addr)
    × (a % 4096 ≡ addr % 4096 + (a - addr))
base_among addr count a within low high =
    let on : addr + (a - addr) ≡ a = omega arith in
    (rw on at (base_on addr (a - addr) (omega arith)), rw on at (offset_on addr (a - addr) (omega arith)))

-- ---- bytes stored in a page
module _ (addresses : List ℕ) (pages : List (List ℕ)) (piece : List ℕ) (kept : ArePages addresses pages)
    (place addr : ℕ) (there : place < length addresses) (here : get_or addresses place 0 ≡ base_of addr)
    (within : length piece + addr % 4096 ≤ 4096) where
  old_page : List ℕ
  old_page = get_or pages place []

  old_long : length old_page ≡ 4096
  unfolding old_page
  old_long = kept.long place (omega (arith, kept.paired))

  fits : addr % 4096 + length piece ≤ length old_page
  fits = omega (arith, old_long)

  new_page : List ℕ
  new_page = overwritten old_page (addr % 4096) piece

  new_pages : List (List ℕ)
  new_pages = set pages place new_page

  at_place : get_or new_pages place [] ≡ new_page
  unfolding new_pages
  at_place = get_or-set_same pages place new_page [] (omega (arith, kept.paired))

  at_other : (i : ℕ) → i ≢ place → get_or new_pages i [] ≡ get_or pages i []
  unfolding new_pages
  at_other i other = get_or-set_other pages place i new_page [] other

  kept' : ArePages addresses new_pages
  unfolding new_pages new_page
  kept' = record {
    whole = kept.whole;
    rising = kept.rising;
    few = kept.few;
    paired = length-set pages place new_page ∙ kept.paired;
    long = λ k h. elim (eqb_tells k place) [
      | inl same ↦
          rw (same.1, get_or-set_same pages place new_page [] (omega (arith, kept.paired)))
          (overwritten_length old_page piece (addr % 4096) fits ∙ old_long)
      | inr other ↦
          rw (get_or-set_other pages place k new_page [] other.1)
          (kept.long k (omega (arith, length-set pages place new_page)))
    ];
  }

  -- an address of the piece
  stored_inside : (a i : ℕ) → i < length addresses → get_or addresses i 0 ≡ base_of a → addr ≤ a
      → a < addr + length piece
      → byte_at (flat_of addresses new_pages) a ≡ byte_after_store (flat_of addresses pages) addr piece a
  unfolding new_page
  stored_inside a i hi same low high =
      let on = base_among addr (length piece) a within low high in
      let one : i ≡ place =
      one_place addresses i place (AreApart-rising addresses kept.rising) hi there (same ∙ on.0 ∙ sym here) in
      rw (among_yes addr (length piece) a low high) (byte_at-found addresses new_pages kept' i a hi same
      ∙ ap (λ (k : ℕ). Some (get_or (get_or new_pages k []) (a % 4096) 0)) one
      ∙ ap (λ (page : List ℕ). Some (get_or page (a % 4096) 0)) at_place
      ∙ ap (λ (k : ℕ). Some (get_or new_page k 0)) on.1
      ∙ ap (λ (byte : ℕ). Some byte) (overwritten_inside old_page piece (addr % 4096) fits (a - addr) (omega arith)))

  -- an address of a page, and not of the piece
  off_piece : (a : ℕ) → base_of a ≡ base_of addr → is_in_span addr (length piece) a ≡ false
      → (a % 4096 < addr % 4096) ⊎ (addr % 4096 + length piece ≤ a % 4096)
  off_piece a base off = elim (cases_lt (a % 4096) (addr % 4096)) [
    | inl below ↦ inl below
    | inr above ↦ elim (cases_lt (a % 4096) (addr % 4096 + length piece)) [
      | inr past ↦ inr past
      | inl inside ↦
          let page : a + addr % 4096 ≡ addr + a % 4096 = same_page a addr base in
          let yes : is_in_span addr (length piece) a ≡ true =
          among_yes addr (length piece) a (omega arith) (omega arith) in
          absurd (false≢true (sym off ∙ yes))
    ]
  ]

  same_byte : (a i : ℕ) → get_or addresses i 0 ≡ base_of a → is_in_span addr (length piece) a ≡ false
      → get_or (get_or new_pages i []) (a % 4096) 0 ≡ get_or (get_or pages i []) (a % 4096) 0
  unfolding new_page old_page
  same_byte a i same off = elim (eqb_tells i place) [
    | inl one ↦
        let base : base_of a ≡ base_of addr = sym same ∙ ap (λ (k : ℕ). get_or addresses k 0) one.1 ∙ here in
        rw one.1 (ap (λ (page : List ℕ). get_or page (a % 4096) 0) at_place
        ∙ overwritten_outside old_page piece (addr % 4096) fits (a % 4096) (off_piece a base off))
    | inr other ↦ ap (λ (page : List ℕ). get_or page (a % 4096) 0) (at_other i other.1)
  ]

  stored_outside : (a i : ℕ) → i < length addresses → get_or addresses i 0 ≡ base_of a
      → is_in_span addr (length piece) a ≡ false
      → byte_at (flat_of addresses new_pages) a ≡ byte_after_store (flat_of addresses pages) addr piece a
  stored_outside a i hi same off =
      rw off (byte_at-found addresses new_pages kept' i a hi same
      ∙ ap (λ (byte : ℕ). Some byte) (same_byte a i same off)
      ∙ sym (byte_at-found addresses pages kept i a hi same))

  stored_absent : (a : ℕ) → IsAbsent addresses a
      → byte_at (flat_of addresses new_pages) a ≡ byte_after_store (flat_of addresses pages) addr piece a
  stored_absent a none = elim (among_cases addr (length piece) a) [
    | inl inside ↦ absurd (none place there (here ∙ sym (base_among addr (length piece) a within inside.0 inside.1).0))
    | inr off ↦
        rw off (byte_at-absent addresses new_pages kept' a none ∙ sym (byte_at-absent addresses pages kept a none))
  ]

  stored_at : (a : ℕ)
      → byte_at (flat_of addresses new_pages) a ≡ byte_after_store (flat_of addresses pages) addr piece a
  stored_at a = elim (place_cases addresses a) [
    | inl is_kept ↦ elim (among_cases addr (length piece) a) [
      | inl inside ↦ stored_inside a is_kept.0 is_kept.1.0 is_kept.1.1 inside.0 inside.1
      | inr off ↦ stored_outside a is_kept.0 is_kept.1.0 is_kept.1.1 off
    ]
    | inr none ↦ stored_absent a none
  ]

  pub ArePages-stored : ArePages addresses (set pages place (overwritten (get_or pages place []) (addr % 4096) piece))
  unfolding new_pages new_page old_page
  ArePages-stored = kept'

  pub byte_at-stored : (a : ℕ)
      → byte_at (flat_of addresses (set pages place (overwritten (get_or pages place []) (addr % 4096) piece))) a
      ≡ byte_after_store (flat_of addresses pages) addr piece a
  unfolding new_pages new_page old_page
  byte_at-stored = stored_at

-- ---- one more page
module _ (addresses : List ℕ) (pages : List (List ℕ)) (kept : ArePages addresses pages) (page place : ℕ)
    (whole : page % 4096 ≡ 0) (gap : HasNoPage addresses page place) (room : length addresses < 256) where
  more : List ℕ
  more = insert addresses place page

  more_pages : List (List ℕ)
  more_pages = insert pages place (zeros 4096)

  base : base_of page ≡ page
  base = omega arith

  fits_in : place ≤ length pages
  fits_in = omega (arith, gap.0, kept.paired)

  more_length : length more ≡ length addresses + 1
  unfolding more
  more_length = length-insert addresses place page gap.0

  more_paired : length more_pages ≡ length more
  unfolding more_pages
  more_paired = omega (arith, length-insert pages place (zeros 4096) fits_in, more_length, kept.paired)

  -- what is at a place below, at and above the new one
  address_below : (k : ℕ) → k < place → get_or more k 0 ≡ get_or addresses k 0
  unfolding more
  address_below k h = get_or-insert_below addresses place page 0 k h gap.0

  address_at : get_or more place 0 ≡ page
  unfolding more
  address_at = get_or-insert_at addresses place page 0 gap.0

  address_above : (k : ℕ) → place ≤ k → get_or more (k + 1) 0 ≡ get_or addresses k 0
  unfolding more
  address_above k h = get_or-insert_above addresses place page 0 k h gap.0

  page_below : (k : ℕ) → k < place → get_or more_pages k [] ≡ get_or pages k []
  unfolding more_pages
  page_below k h = get_or-insert_below pages place (zeros 4096) [] k h fits_in

  zero_page : get_or more_pages place [] ≡ zeros 4096
  unfolding more_pages
  zero_page = get_or-insert_at pages place (zeros 4096) [] fits_in

  page_above : (k : ℕ) → place ≤ k → get_or more_pages (k + 1) [] ≡ get_or pages k []
  unfolding more_pages
  page_above k h = get_or-insert_above pages place (zeros 4096) [] k h fits_in

  -- a place is below the new one, is it, or comes after it
  Cases : ℕ → Type 0
  Cases k = (k < place) ⊎ ((k ≡ place) ⊎ ((j : ℕ) × (place ≤ j) × (k ≡ j + 1)))

  cases : (k : ℕ) → Cases k
  unfolding Cases
  cases k = elim (cases_lt k place) [
    | inl below ↦ inl below
    | inr above ↦ elim (cases_lt place k) [
      | inl over ↦ inr (inr (k - 1, omega arith, omega arith))
      | inr under ↦ inr (inl (omega arith))
    ]
  ]

  zeros_long : length (zeros 4096) ≡ 4096
  unfolding zeros
  zeros_long = let count : ℕ = 4096 in length-replicate {A = ℕ} count 0

  whole_more : (k : ℕ) → k < length more → get_or more k 0 % 4096 ≡ 0
  unfolding Cases
  whole_more k h = elim (cases k) [
    | inl below ↦ rw (address_below k below) (kept.whole k (omega (arith, gap.0)))
    | inr (inl at) ↦ rw (at, address_at) whole
    | inr (inr later) ↦
        rw (later.2, address_above later.0 later.1) (kept.whole later.0 (omega (arith, more_length, later.2)))
  ]

  long_more : (k : ℕ) → k < length more_pages → length (get_or more_pages k []) ≡ 4096
  unfolding Cases
  long_more k h = elim (cases k) [
    | inl below ↦ rw (page_below k below) (kept.long k (omega (arith, fits_in)))
    | inr (inl at) ↦ rw (at, zero_page) zeros_long
    | inr (inr later) ↦ rw (later.2, page_above later.0 later.1)
        (kept.long later.0 (omega (arith, more_length, more_paired, kept.paired, later.2)))
  ]

  -- the addresses around the new one
  rising_more : (i k : ℕ) → i < k → k < length more → get_or more i 0 < get_or more k 0
  unfolding Cases
  rising_more i k h l = elim (cases k) [
    | inl below ↦
        rw (address_below k below, address_below i (omega arith)) (kept.rising i k h (omega (arith, gap.0)))
    | inr (inl at) ↦
        let low = gap.1 i (omega arith) in
        rw (at, address_at, address_below i (omega arith)) (omega (arith, base))
    | inr (inr later) ↦
        let last : later.0 < length addresses = omega (arith, more_length, later.2) in
        let high = gap.2 later.0 later.1 last in
        rw (later.2, address_above later.0 later.1) (elim (cases i) [
          | inl under ↦ rw (address_below i under) (kept.rising i later.0 (omega (arith, later.1)) last)
          | inr (inl at) ↦ rw (at, address_at) (omega (arith, base))
          | inr (inr earlier) ↦ rw (earlier.2, address_above earlier.0 earlier.1)
              (kept.rising earlier.0 later.0 (omega (arith, earlier.2, later.2)) last)
        ])
  ]

  kept_more : ArePages more more_pages
  kept_more = record {
    whole = whole_more;
    rising = rising_more;
    few = omega (arith, more_length);
    paired = more_paired;
    long = long_more;
  }

  Mapped : ℕ → Type 0
  Mapped a = byte_at (flat_of more more_pages) a ≡ byte_after_map (flat_of addresses pages) page a

  -- an address of a page that was there
  mapped_old : (a i : ℕ) → i < length addresses → get_or addresses i 0 ≡ base_of a → Mapped a
  unfolding Mapped
  mapped_old a i hi same = elim (among_cases page 4096 a) [
    | inl inside ↦ absurd (HasNoPage-absent addresses page place gap i hi
        (same ∙ base-page page a whole inside.0 inside.1 ∙ sym base))
    | inr off ↦ rw off (elim (cases_lt i place) [
      | inl below ↦
          byte_at-found more more_pages kept_more i a (omega (arith, more_length)) (address_below i below ∙ same)
          ∙ ap (λ (p : List ℕ). Some (get_or p (a % 4096) 0)) (page_below i below)
          ∙ sym (byte_at-found addresses pages kept i a hi same)
      | inr above ↦
          byte_at-found more more_pages kept_more (i + 1) a (omega (arith, more_length)) (address_above i above ∙ same)
          ∙ ap (λ (p : List ℕ). Some (get_or p (a % 4096) 0)) (page_above i above)
          ∙ sym (byte_at-found addresses pages kept i a hi same)
    ])
  ]

  absent_more : (a : ℕ) → IsAbsent addresses a → page ≢ base_of a → IsAbsent more a
  unfolding Cases
  absent_more a none other k h = elim (cases k) [
    | inl below ↦ rw (address_below k below) (none k (omega (arith, gap.0)))
    | inr (inl at) ↦ rw (at, address_at) other
    | inr (inr later) ↦
        rw (later.2, address_above later.0 later.1) (none later.0 (omega (arith, more_length, later.2)))
  ]

  zero_at : (k : ℕ) → k < 4096 → get_or (zeros 4096) k 0 ≡ 0
  unfolding zeros
  zero_at k h = get_or-replicate 4096 k 0 0 h

  mapped_new : (a : ℕ) → IsAbsent addresses a → Mapped a
  unfolding Mapped
  mapped_new a none = elim (among_cases page 4096 a) [
    | inl inside ↦
        let new : page ≡ base_of a = sym (base-page page a whole inside.0 inside.1) in
        rw (among_yes page 4096 a inside.0 inside.1)
        (byte_at-found more more_pages kept_more place a (omega (arith, more_length, gap.0)) (address_at ∙ new)
        ∙ ap (λ (p : List ℕ). Some (get_or p (a % 4096) 0)) zero_page
        ∙ ap (λ (byte : ℕ). Some byte) (zero_at (a % 4096) (omega arith)))
    | inr off ↦
        let other : page ≢ base_of a = λ same. let on = page-base page a (sym same) in
        false≢true (sym off ∙ among_yes page 4096 a on.0 on.1) in
        rw off (byte_at-absent more more_pages kept_more a (absent_more a none other)
        ∙ sym (byte_at-absent addresses pages kept a none))
  ]

  mapped_at : (a : ℕ) → Mapped a
  mapped_at a = elim (place_cases addresses a) [
    | inl is_kept ↦ mapped_old a is_kept.0 is_kept.1.0 is_kept.1.1
    | inr none ↦ mapped_new a none
  ]

  pub ArePages-inserted : ArePages (insert addresses place page) (insert pages place (zeros 4096))
  unfolding more more_pages
  ArePages-inserted = kept_more

  pub byte_at-inserted : (a : ℕ) → byte_at (flat_of (insert addresses place page) (insert pages place (zeros 4096))) a
      ≡ byte_after_map (flat_of addresses pages) page a
  unfolding more more_pages Mapped
  byte_at-inserted = mapped_at

  pub len-inserted : len (flat_of (insert addresses place page) (insert pages place (zeros 4096)))
      ≡ len (flat_of addresses pages) + 4096
  unfolding more more_pages
  len-inserted = omega (arith, len-flat_of more more_pages kept_more, len-flat_of addresses pages kept, more_length)

-- ---- the lists after an insert that was done, or was refused
pub record Inserts (addresses addresses' : List ℕ) (pages pages' : List (List ℕ)) (place page : ℕ) {E : Type 0}
    (r : Result (Unit {0}) E) : Type 0 where
  pub addresses_ok : OnOk r (addresses' ≡ insert addresses place page)
  pub pages_ok : OnOk r (pages' ≡ insert pages place (zeros 4096))
  pub addresses_err : OnErr r (addresses' ≡ addresses)
  pub pages_err : OnErr r (pages' ≡ pages)

module _ (addresses addresses' : List ℕ) (pages pages' : List (List ℕ)) (place page : ℕ)
    (kept : ArePages addresses pages) (whole : page % 4096 ≡ 0) (gap : HasNoPage addresses page place)
    (room : len (flat_of addresses pages) < 256 * 4096) where
  few : length addresses < 256
  few = omega (arith, len-flat_of addresses pages kept)

  pub ArePages-after : {E : Type 0} (r : Result (Unit {0}) E) → Inserts addresses addresses' pages pages' place page r
      → ArePages addresses' pages'
  ArePages-after (Ok done) is =
      rw (is.addresses_ok, is.pages_ok) (ArePages-inserted addresses pages kept page place whole gap few)
  ArePages-after (Err error) is = rw (is.addresses_err, is.pages_err) kept

  pub byte_at-after : {E : Type 0} (r : Result (Unit {0}) E) → Inserts addresses addresses' pages pages' place page r
      → OnOk r ((a : ℕ) → byte_at (flat_of addresses' pages') a ≡ byte_after_map (flat_of addresses pages) page a)
  byte_at-after (Ok done) is = λ a.
      rw (is.addresses_ok, is.pages_ok) (byte_at-inserted addresses pages kept page place whole gap few a)
  byte_at-after (Err error) is = tt

  pub len-after : {E : Type 0} (r : Result (Unit {0}) E) → Inserts addresses addresses' pages pages' place page r
      → OnOk r (len (flat_of addresses' pages') ≡ len (flat_of addresses pages) + 4096)
  len-after (Ok done) is =
      rw (is.addresses_ok, is.pages_ok) (len-inserted addresses pages kept page place whole gap few)
  len-after (Err error) is = tt
