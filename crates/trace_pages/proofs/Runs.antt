-- Runs of bytes: what their end says of their length and of the addresses, and how a run is made of pieces of pages,
-- for whoever reads or writes memory page by page. At the end, bytes that were stored one run after the other.
use Rattle.std.proofs.Common.{[], ◌∷◌, ◌++◌, ◌≡◌, ◌⊎◌, ℕ, zero, suc, ◌+◌, ◌-◌, ◌%◌, ◌<◌, ◌≤◌, ◌^◌, Bool, true, false}
use Rattle.std.proofs.Common.{Option, Some, None, List, length, get_or, take, drop, inl, inr, refl, sym, ap, ◌∙◌}
use Rattle.std.proofs.Common.{arith}
use Rattle.std.specs.Prelude.{IsSome, if◌then◌else◌}
use Rattle.std.proofs.lemmas.Bool.{cases_lt, lt-ltb, le-ltb, ltb-true}
use Rattle.std.proofs.lemmas.List.{append-nil, length-take-le, length-drop, get_or-take, get_or-drop}
use Rattle.trace_pages.specs.FlatMemory.{FlatMemory, IsPiece, RunEnd, Full, Absent, Top, byte_at, byte_after_store}
use Rattle.trace_pages.specs.FlatMemory.{end_from, is_in_span, run, run_end}
use Rattle.trace_pages.proofs.Among.{among_above, among_below, among_yes}

-- ---- one step of a run
pub run_end-step : (m : FlatMemory) (at n byte : ℕ) → at < 2 ^ 64 → byte_at m at ≡ Some byte
    → run_end m at (suc n) ≡ run_end m (at + 1) n
unfolding run_end
run_end-step m at n byte below is = rw (lt-ltb at (2 ^ 64) below, is) refl

pub run_end-absent : (m : FlatMemory) (at n : ℕ) → 0 < n → at < 2 ^ 64 → byte_at m at ≡ None
    → run_end m at n ≡ Absent at
unfolding run_end
run_end-absent m at zero some below is = absurd (omega arith)
run_end-absent m at (suc n) some below is = rw (lt-ltb at (2 ^ 64) below, is) refl

pub run_end-top : (m : FlatMemory) (at n : ℕ) → 0 < n → 2 ^ 64 ≤ at → run_end m at n ≡ Top
unfolding run_end
run_end-top m at zero some above = absurd (omega arith)
run_end-top m at (suc n) some above = rw (le-ltb at (2 ^ 64) above) refl

pub run_end-none : (m : FlatMemory) (at : ℕ) → run_end m at 0 ≡ Full
unfolding run_end
run_end-none m at = refl

-- bytes that are all there are passed
pub run_end-passed : (m : FlatMemory) (at k n : ℕ) → at + k ≤ 2 ^ 64
    → ((j : ℕ) → j < k → (byte : ℕ) × (byte_at m (at + j) ≡ Some byte))
    → run_end m at (k + n) ≡ run_end m (at + k) n
run_end-passed m at zero n below there =
    let none : 0 + n ≡ n = omega arith in
    let here : at ≡ at + 0 = omega arith in
    ap (run_end m at) none ∙ ap (λ (a : ℕ). run_end m a n) here
run_end-passed m at (suc k) n below there =
    let next : suc k + n ≡ suc (k + n) = omega arith in
    let on : at + 1 + k ≡ at + suc k = omega arith in
    let first : at + 0 ≡ at = omega arith in
    ap (run_end m at) next
    ∙ run_end-step m at (k + n) (there 0 (omega arith)).0 (omega arith) (rw first at (there 0 (omega arith)).1)
    ∙ run_end-passed m (at + 1) k n (omega arith)
    (λ j h. let further : at + suc j ≡ at + 1 + j = omega arith in rw further at (there (suc j) (omega arith)))
    ∙ ap (λ (a : ℕ). run_end m a n) on

-- a run that is whole: each address is below 2^64, and mapped
full_step : (at : ℕ) (b : Bool) (o : Option ℕ) (r : RunEnd) → (if b then end_from at o r else Top) ≡ Full
    → (b ≡ true) × IsSome o × (r ≡ Full)
full_step at true None r h = cc
full_step at true (Some byte) r h = (refl, refl, h)
full_step at false o r h = cc

pub run_end-Full : (m : FlatMemory) (at n : ℕ) → run_end m at n ≡ Full → (j : ℕ) → j < n
    → (at + j < 2 ^ 64) × IsSome (byte_at m (at + j))
unfolding run_end
run_end-Full m at zero whole j h = absurd (omega arith)
run_end-Full m at (suc n) whole zero h =
    let one = full_step at _ (byte_at m at) (run_end m (at + 1) n) whole in
    let here : at + 0 ≡ at = omega arith in
    rw here (ltb-true at (2 ^ 64) one.0, one.1)
run_end-Full m at (suc n) whole (suc j) h =
    let one = full_step at _ (byte_at m at) (run_end m (at + 1) n) whole in
    let on : at + suc j ≡ at + 1 + j = omega arith in
    rw on (run_end-Full m (at + 1) n one.2 j (omega arith))

-- ---- a piece of a page is a run
piece_top : (at rest : ℕ) → at < 2 ^ 64 → rest + at % 4096 ≡ 4096 → at + rest ≤ 2 ^ 64
piece_top at rest below whole = omega arith

pub run_end-piece : (m : FlatMemory) (at n : ℕ) (piece : List ℕ) → at < 2 ^ 64 → IsPiece m at piece → n ≤ length piece
    → run_end m at n ≡ Full
run_end-piece m at n piece below is within =
    let all : n ≡ n + 0 = omega arith in
    ap (run_end m at) all
    ∙ run_end-passed m at n 0 (omega (arith, piece_top at (length piece) below is.to_page_end))
    (λ j h. (get_or piece j 0, is.bytes j (omega arith)))
    ∙ run_end-none m (at + n)

pub run_end-past : (m : FlatMemory) (at n : ℕ) (piece : List ℕ) → at < 2 ^ 64 → IsPiece m at piece → length piece ≤ n
    → run_end m at n ≡ run_end m (at + length piece) (n - length piece)
run_end-past m at n piece below is within =
    let all : n ≡ length piece + (n - length piece) = omega arith in
    ap (run_end m at) all
    ∙ run_end-passed m at (length piece) (n - length piece) (piece_top at (length piece) below is.to_page_end)
    (λ j h. (get_or piece j 0, is.bytes j h))

pub run_end-past_top : (m : FlatMemory) (at n : ℕ) (piece : List ℕ) → at < 2 ^ 64 → IsPiece m at piece
    → length piece < n → 2 ^ 64 ≤ at + length piece
    → run_end m at n ≡ Top
run_end-past_top m at n piece below is within top =
    run_end-past m at n piece below is (omega arith)
    ∙ run_end-top m (at + length piece) (n - length piece) (omega arith) top

-- ---- the bytes of a run
pub run-step : (m : FlatMemory) (at n byte : ℕ) → at < 2 ^ 64 → byte_at m at ≡ Some byte
    → run m at (suc n) ≡ byte ∷ run m (at + 1) n
unfolding run
run-step m at n byte below is = rw (lt-ltb at (2 ^ 64) below, is) refl

pub run-absent : (m : FlatMemory) (at n : ℕ) → at < 2 ^ 64 → byte_at m at ≡ None → run m at (suc n) ≡ []
unfolding run
run-absent m at n below is = rw (lt-ltb at (2 ^ 64) below, is) refl

pub run-top : (m : FlatMemory) (at n : ℕ) → 2 ^ 64 ≤ at → run m at (suc n) ≡ []
unfolding run
run-top m at n above = rw (le-ltb at (2 ^ 64) above) refl

pub run-none : (m : FlatMemory) (at : ℕ) → run m at 0 ≡ []
unfolding run
run-none m at = refl

-- what the end of a run of at most n from an address on says of its length
Says : RunEnd → ℕ → ℕ → ℕ → Type 0
Says Full at n long = long ≡ n
Says (Absent first) at n long = (long < n) × (at + long ≡ first)
Says Top at n long = (long < n) × (at ≤ 2 ^ 64 → at + long ≡ 2 ^ 64)

says_more : (e : RunEnd) (at n long : ℕ) → at < 2 ^ 64 → Says e (at + 1) n long → Says e at (suc n) (suc long)
unfolding Says
says_more Full at n long below says = omega arith
says_more (Absent first) at n long below says = (omega (arith, says.0), omega (arith, says.1))
says_more Top at n long below says = (omega (arith, says.0), λ h. omega (arith, says.1 (omega arith)))

run_says : (m : FlatMemory) (n at : ℕ) → Says (run_end m at n) at n (length (run m at n))
unfolding Says
run_says m zero at = rw (run_end-none m at, run-none m at) refl
run_says m (suc n) at = elim (cases_lt at (2 ^ 64)) as (λ _. Says (run_end m at (suc n)) at (suc n)
    (length (run m at (suc n)))) [
      | inr above ↦ rw (run_end-top m at (suc n) (omega arith) above, run-top m at n above)
          (omega arith, λ h. omega arith)
      | inl below ↦ elim (byte_at m at) as (λ o. byte_at m at ≡ o
          → Says (run_end m at (suc n)) at (suc n) (length (run m at (suc n)))) [
            | None ↦ λ is. rw (run_end-absent m at (suc n) (omega arith) below is, run-absent m at n below is)
                (omega arith, omega arith)
            | Some byte ↦ λ is. rw (run_end-step m at n byte below is, run-step m at n byte below is)
                (says_more (run_end m (at + 1) n) at n (length (run m (at + 1) n)) below (run_says m n (at + 1)))
          ] refl
    ]

short_end : (e : RunEnd) (at n long : ℕ) → Says e at n long → long ≤ n
unfolding Says
short_end Full at n long says = omega arith
short_end (Absent first) at n long says = omega (arith, says.0)
short_end Top at n long says = omega (arith, says.0)

pub length-run : (m : FlatMemory) (at n : ℕ) → length (run m at n) ≤ n
length-run m at n = short_end (run_end m at n) at n (length (run m at n)) (run_says m n at)

whole_end : (e : RunEnd) (at n long : ℕ) → Says e at n long → long ≡ n → e ≡ Full
unfolding Says
whole_end Full at n long says whole = refl
whole_end (Absent first) at n long says whole = absurd (omega (arith, says.0))
whole_end Top at n long says whole = absurd (omega (arith, says.0))

pub length-run-Full : (m : FlatMemory) (at n : ℕ) → run_end m at n ≡ Full → length (run m at n) ≡ n
unfolding Says
length-run-Full m at n e = rw e at (run_says m n at)

pub some_is : (o : Option ℕ) → IsSome o → (byte : ℕ) × (o ≡ Some byte)
some_is None is = cc
some_is (Some byte) is = (byte, refl)

pub none_some : (o : Option ℕ) → o ≡ None → IsSome o → ⊥
none_some None is some = cc
none_some (Some byte) is some = cc

-- the bytes of a run that has all of them
pub get_or-run : (m : FlatMemory) (at n k : ℕ) → run_end m at n ≡ Full → k < n
    → byte_at m (at + k) ≡ Some (get_or (run m at n) k 0)
get_or-run m at zero k whole h = absurd (omega arith)
get_or-run m at (suc n) zero whole h =
    let here : at + 0 ≡ at = omega arith in
    let first = run_end-Full m at (suc n) whole 0 h in
    let byte = some_is (byte_at m at) (rw here at first.1) in
    ap (byte_at m) here ∙ byte.1
    ∙ ap (λ (l : List ℕ). Some (get_or l 0 0)) (sym (run-step m at n byte.0 (omega (arith, first.0)) byte.1))
get_or-run m at (suc n) (suc k) whole h =
    let here : at + 0 ≡ at = omega arith in
    let on : at + suc k ≡ at + 1 + k = omega arith in
    let first = run_end-Full m at (suc n) whole 0 (omega arith) in
    let byte = some_is (byte_at m at) (rw here at first.1) in
    let below : at < 2 ^ 64 = omega (arith, first.0) in
    ap (byte_at m) on
    ∙ get_or-run m (at + 1) n k (sym (run_end-step m at n byte.0 below byte.1) ∙ whole) (omega arith)
    ∙ ap (λ (l : List ℕ). Some (get_or l (suc k) 0)) (sym (run-step m at n byte.0 below byte.1))

pub run_end-whole : (m : FlatMemory) (at n : ℕ) → length (run m at n) ≡ n → run_end m at n ≡ Full
run_end-whole m at n whole = whole_end (run_end m at n) at n (length (run m at n)) (run_says m n at) whole

pub length-run-Absent : (m : FlatMemory) (at n first : ℕ) → run_end m at n ≡ Absent first
    → at + length (run m at n) ≡ first
unfolding Says
length-run-Absent m at n first e = (rw e at (run_says m n at)).1

pub length-run-Top : (m : FlatMemory) (at n : ℕ) → at ≤ 2 ^ 64 → run_end m at n ≡ Top
    → at + length (run m at n) ≡ 2 ^ 64
unfolding Says
length-run-Top m at n below e = (rw e at (run_says m n at)).1 below

-- bytes that are all there begin the run
run_passed : (m : FlatMemory) (piece : List ℕ) (at n : ℕ) → at + length piece ≤ 2 ^ 64
    → ((j : ℕ) → j < length piece → byte_at m (at + j) ≡ Some (get_or piece j 0))
    → run m at (length piece + n) ≡ piece ++ run m (at + length piece) n
run_passed m [] at n below there =
    let none : 0 + n ≡ n = omega arith in
    let here : at ≡ at + 0 = omega arith in
    ap (run m at) none ∙ ap (λ (a : ℕ). run m a n) here
run_passed m (byte ∷ piece) at n below there =
    let next : suc (length piece) + n ≡ suc (length piece + n) = omega arith in
    let on : at + 1 + length piece ≡ at + suc (length piece) = omega arith in
    let first : at + 0 ≡ at = omega arith in
    ap (run m at) next
    ∙ run-step m at (length piece + n) byte (omega arith) (rw first at (there 0 (omega arith)))
    ∙ ap (λ (xs : List ℕ). byte ∷ xs) (run_passed m piece (at + 1) n (omega arith)
    (λ j h. let further : at + suc j ≡ at + 1 + j = omega arith in rw further at (there (suc j) (omega arith))))
    ∙ ap (λ (a : ℕ). byte ∷ (piece ++ run m a n)) on

pub run-past : (m : FlatMemory) (at n : ℕ) (piece : List ℕ) → at < 2 ^ 64 → IsPiece m at piece → length piece ≤ n
    → run m at n ≡ piece ++ run m (at + length piece) (n - length piece)
run-past m at n piece below is within =
    let all : n ≡ length piece + (n - length piece) = omega arith in
    ap (run m at) all ∙ run_passed m piece at (n - length piece)
    (piece_top at (length piece) below is.to_page_end) is.bytes

-- a run that ends within a piece is the piece's first bytes
pub run-within : (m : FlatMemory) (at n : ℕ) (piece : List ℕ) → at < 2 ^ 64 → IsPiece m at piece → n ≤ length piece
    → run m at n ≡ take n piece
run-within m at n piece below is within =
    let long : length (take n piece) ≡ n = length-take-le n piece within in
    let all : n ≡ length (take n piece) + 0 = omega (arith, long) in
    let room : at + length (take n piece) ≤ 2 ^ 64 =
    omega (arith, long, piece_top at (length piece) below is.to_page_end) in
    ap (run m at) all
    ∙ run_passed m (take n piece) at 0 room (λ j h.
    let inside : j < n = omega (arith, long) in
    is.bytes j (omega arith) ∙ ap (λ (byte : ℕ). Some byte) (sym (get_or-take n piece j 0 inside)))
    ∙ ap (λ (rest : List ℕ). take n piece ++ rest) (run-none m (at + length (take n piece)))
    ∙ append-nil (take n piece)

-- ---- a run stored after another
module _ (old mid new : FlatMemory) (at done count : ℕ) (bytes : List ℕ) (within : done + count ≤ length bytes)
    (front : (a : ℕ) → byte_at mid a ≡ byte_after_store old at (take done bytes) a)
    (next : (a : ℕ) → byte_at new a ≡ byte_after_store mid (at + done) (take count (drop done bytes)) a) where
  front_length : length (take done bytes) ≡ done
  front_length = length-take-le done bytes (omega arith)

  next_length : length (take count (drop done bytes)) ≡ count
  next_length = length-take-le count (drop done bytes) (omega (arith, length-drop done bytes))

  all_length : length (take (done + count) bytes) ≡ done + count
  all_length = length-take-le (done + count) bytes within

  -- an address of the later bytes
  in_next : (a : ℕ) → at + done ≤ a → a < at + done + count
      → byte_at new a ≡ byte_after_store old at (take (done + count) bytes) a
  in_next a low high =
      let place : done + (a - (at + done)) ≡ a - at = omega arith in
      let later : is_in_span (at + done) (length (take count (drop done bytes))) a ≡ true =
      among_yes (at + done) _ a low (omega (arith, next_length)) in
      let one : is_in_span at (length (take (done + count) bytes)) a ≡ true =
      among_yes at _ a (omega arith) (omega (arith, all_length)) in
      let put : byte_at new a ≡ Some (get_or (take count (drop done bytes)) (a - (at + done)) 0) =
      rw later at (next a) in
      rw one (put ∙ ap (λ (byte : ℕ). Some byte)
      (get_or-take count (drop done bytes) (a - (at + done)) 0 (omega arith)
      ∙ get_or-drop done bytes (a - (at + done)) 0
      ∙ ap (λ (k : ℕ). get_or bytes k 0) place ∙ sym (get_or-take (done + count) bytes (a - at) 0 (omega arith))))

  -- an address of the earlier ones
  in_front : (a : ℕ) → at ≤ a → a < at + done → byte_at new a ≡ byte_after_store old at (take (done + count) bytes) a
  in_front a low high =
      let later : is_in_span (at + done) (length (take count (drop done bytes))) a ≡ false =
      among_below (at + done) _ a high in
      let here : is_in_span at (length (take done bytes)) a ≡ true =
      among_yes at _ a low (omega (arith, front_length)) in
      let one : is_in_span at (length (take (done + count) bytes)) a ≡ true =
      among_yes at _ a low (omega (arith, all_length)) in
      let kept : byte_at new a ≡ byte_at mid a = rw later at (next a) in
      let put : byte_at mid a ≡ Some (get_or (take done bytes) (a - at) 0) = rw here at (front a) in
      rw one (kept ∙ put ∙ ap (λ (byte : ℕ). Some byte)
      (get_or-take done bytes (a - at) 0 (omega arith)
      ∙ sym (get_or-take (done + count) bytes (a - at) 0 (omega arith))))

  -- an address of neither
  in_neither : (a : ℕ) → (a < at) ⊎ (at + (done + count) ≤ a)
      → byte_at new a ≡ byte_after_store old at (take (done + count) bytes) a
  in_neither a (inl low) =
      let later : is_in_span (at + done) (length (take count (drop done bytes))) a ≡ false =
      among_below (at + done) _ a (omega arith) in
      let here : is_in_span at (length (take done bytes)) a ≡ false = among_below at _ a low in
      let one : is_in_span at (length (take (done + count) bytes)) a ≡ false = among_below at _ a low in
      let kept : byte_at new a ≡ byte_at mid a = rw later at (next a) in
      let put : byte_at mid a ≡ byte_at old a = rw here at (front a) in
      rw one (kept ∙ put)
  in_neither a (inr high) =
      let later : is_in_span (at + done) (length (take count (drop done bytes))) a ≡ false =
      among_above (at + done) _ a (omega (arith, next_length)) in
      let here : is_in_span at (length (take done bytes)) a ≡ false =
      among_above at _ a (omega (arith, front_length)) in
      let one : is_in_span at (length (take (done + count) bytes)) a ≡ false =
      among_above at _ a (omega (arith, all_length)) in
      let kept : byte_at new a ≡ byte_at mid a = rw later at (next a) in
      let put : byte_at mid a ≡ byte_at old a = rw here at (front a) in
      rw one (kept ∙ put)

  pub byte_at-stored_more : (a : ℕ) → byte_at new a ≡ byte_after_store old at (take (done + count) bytes) a
  byte_at-stored_more a = elim (cases_lt a at) [
    | inl below ↦ in_neither a (inl below)
    | inr above ↦ elim (cases_lt a (at + done)) [
      | inl early ↦ in_front a above early
      | inr late ↦ elim (cases_lt a (at + done + count)) [
        | inl inside ↦ in_next a late inside
        | inr past ↦ in_neither a (inr (omega arith))
      ]
    ]
  ]

-- what was stored so far leaves the addresses after it
pub byte_at-stored_before : (old mid : FlatMemory) (at done k : ℕ) (bytes : List ℕ) → done ≤ length bytes → done ≤ k
    → ((a : ℕ) → byte_at mid a ≡ byte_after_store old at (take done bytes) a)
    → byte_at mid (at + k) ≡ byte_at old (at + k)
byte_at-stored_before old mid at done k bytes within behind front =
    let past : is_in_span at (length (take done bytes)) (at + k) ≡ false =
    among_above at _ (at + k) (omega (arith, length-take-le done bytes within)) in
    rw past at (front (at + k))

-- and so what is left of a run is mapped, as far as one likes
pub run_end-stored_before : (old mid : FlatMemory) (at done count : ℕ) (bytes : List ℕ)
    → run_end old at (length bytes) ≡ Full → done + count ≤ length bytes → 0 < count
    → ((a : ℕ) → byte_at mid a ≡ byte_after_store old at (take done bytes) a)
    → run_end mid (at + done) count ≡ Full
run_end-stored_before old mid at done count bytes whole within some front =
    let all : count ≡ count + 0 = omega arith in
    let last = run_end-Full old at (length bytes) whole (done + count - 1) (omega arith) in
    ap (run_end mid (at + done)) all
    ∙ run_end-passed mid (at + done) count 0 (omega (arith, last.0)) there
    ∙ run_end-none mid (at + done + count)
  where
    there : (j : ℕ) → j < count → (byte : ℕ) × (byte_at mid (at + done + j) ≡ Some byte)
    there j h =
        let on : at + done + j ≡ at + (done + j) = omega arith in
        let kept = byte_at-stored_before old mid at done (done + j) bytes (omega arith) (omega arith) front in
        some_is _ (rw (on, kept) (run_end-Full old at (length bytes) whole (done + j) (omega arith)).1)
