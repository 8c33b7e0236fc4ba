-- Memories as wholes: two with the same byte at each address are one, so a change that is known at each address
-- determines the memory after it; and what a store leaves of the addresses. For whoever computes a memory after many
-- changes.
use Rattle.std.proofs.Common.{[], ◌∷◌, ◌≡◌, ◌≢◌, ℕ, zero, suc, ◌+◌, ◌-◌, ◌<◌, ◌≤◌, ◌^◌, false, Option, Some}
use Rattle.std.proofs.Common.{None, List, length, get_or, inl, inr, refl, sym, ap, ◌∙◌, arith}
use Rattle.std.specs.Prelude.{if◌then◌else◌, is_some, IsSome, nat_lt}
use Rattle.std.specs.Cmp.{nat_cmp_total}
use Rattle.std.specs.FinMap.{get-insert, insert, nat_cmp-IsAntisymmetric, same_map}
use Rattle.std.proofs.lemmas.Bool.{cases_lt}
use Rattle.std.proofs.lemmas.Bool.Decides.{eqb_tells}
use Rattle.std.proofs.lemmas.List.{length-replicate}
use Rattle.trace_pages.specs.FlatMemory.{FlatMemory, MapsPage, RunEnd, SameAddresses, StoresBytes, Full, Top}
use Rattle.trace_pages.specs.FlatMemory.{byte_after_map, byte_after_store, byte_at, end_from, is_in_span, mapped}
use Rattle.trace_pages.specs.FlatMemory.{run_end, stored, zeros}
use Rattle.trace_pages.proofs.Among.{among_above, among_below, among_cases, among_yes}
use Rattle.trace_pages.proofs.Entries.{tie_other, tie_same}
use Rattle.trace_pages.proofs.Runs.{run_end-Full}

pub same_memory : (m n : FlatMemory) → ((a : ℕ) → byte_at m a ≡ byte_at n a) → m ≡ n
same_memory m n same = same_map nat_cmp_total nat_cmp-IsAntisymmetric m n same

-- ---- a store
after_inside : (m : FlatMemory) (at a : ℕ) (bytes : List ℕ) → at ≤ a → a < at + length bytes
    → byte_after_store m at bytes a ≡ Some (get_or bytes (a - at) 0)
after_inside m at a bytes low high = rw (among_yes at (length bytes) a low high) refl

after_outside : (m : FlatMemory) (at a : ℕ) (bytes : List ℕ) → is_in_span at (length bytes) a ≡ false
    → byte_after_store m at bytes a ≡ byte_at m a
after_outside m at a bytes off = rw off refl

-- at the first byte, and at the others
put_here : (m : FlatMemory) (at byte a : ℕ) → a ≡ at → byte_at (insert m at byte) a ≡ Some byte
put_here m at byte a same = get-insert nat_cmp_total m at byte a ∙ rw (tie_same a at same) refl

put_past : (m : FlatMemory) (at byte a : ℕ) → a ≢ at → byte_at (insert m at byte) a ≡ byte_at m a
put_past m at byte a other = get-insert nat_cmp_total m at byte a ∙ rw (tie_other a at other) refl

first_here : (m : FlatMemory) (at byte a : ℕ) (bytes : List ℕ) → a ≡ at
    → byte_after_store m at (byte ∷ bytes) a ≡ Some byte
first_here m at byte a bytes same =
    let first : a - at ≡ 0 = omega arith in
    after_inside m at a (byte ∷ bytes) (omega arith) (omega arith)
    ∙ ap (λ (k : ℕ). Some (get_or (byte ∷ bytes) k 0)) first

rest_past : (m : FlatMemory) (at byte a : ℕ) (bytes : List ℕ) → a ≢ at
    → byte_after_store m (at + 1) bytes a ≡ byte_after_store m at (byte ∷ bytes) a
rest_past m at byte a bytes other = elim (cases_lt a at) [
  | inl below ↦
      after_outside m (at + 1) a bytes (among_below (at + 1) (length bytes) a (omega arith))
      ∙ sym (after_outside m at a (byte ∷ bytes) (among_below at (suc (length bytes)) a below))
  | inr above ↦ elim (cases_lt a (at + 1 + length bytes)) [
    | inl inside ↦
        let later : a - at ≡ suc (a - (at + 1)) = omega arith in
        after_inside m (at + 1) a bytes (omega arith) inside
        ∙ sym (after_inside m at a (byte ∷ bytes) above (omega arith)
        ∙ ap (λ (k : ℕ). Some (get_or (byte ∷ bytes) k 0)) later)
    | inr past ↦
        after_outside m (at + 1) a bytes (among_above (at + 1) (length bytes) a past)
        ∙ sym (after_outside m at a (byte ∷ bytes) (among_above at (suc (length bytes)) a (omega arith)))
  ]
]

pub byte_at-store : (m : FlatMemory) (at : ℕ) (bytes : List ℕ) (a : ℕ)
    → byte_at (stored m at bytes) a ≡ byte_after_store m at bytes a
unfolding stored
byte_at-store m at [] a = sym (elim (among_cases at 0 a) as (λ _. byte_after_store m at [] a ≡ byte_at m a) [
  | inl inside ↦ absurd (omega (arith, inside.0, inside.1))
  | inr off ↦ after_outside m at a [] off
])
byte_at-store m at (byte ∷ bytes) a = elim (eqb_tells a at) as (λ _. byte_at
    (insert (stored m (at + 1) bytes) at byte) a ≡ byte_after_store m at (byte ∷ bytes) a) [
      | inl same ↦ put_here (stored m (at + 1) bytes) at byte a same.1 ∙ sym (first_here m at byte a bytes same.1)
      | inr other ↦
          put_past (stored m (at + 1) bytes) at byte a other.1 ∙ byte_at-store m (at + 1) bytes a
          ∙ rest_past m at byte a bytes other.1
    ]

pub stored_is : (before after : FlatMemory) (at : ℕ) (bytes : List ℕ) → StoresBytes before after at bytes
    → after ≡ stored before at bytes
stored_is before after at bytes stores =
    same_memory after (stored before at bytes) (λ a. stores a ∙ sym (byte_at-store before at bytes a))

pub is_stored : (before after : FlatMemory) (at : ℕ) (bytes : List ℕ) → after ≡ stored before at bytes
    → StoresBytes before after at bytes
is_stored before after at bytes same = λ a. ap (λ (m : FlatMemory). byte_at m a) same ∙ byte_at-store before at bytes a

-- ---- a page of zeros
length-zeros : (count : ℕ) → length (zeros count) ≡ count
unfolding zeros
length-zeros count = length-replicate count 0

get_or-zeros : (count k : ℕ) → get_or (zeros count) k 0 ≡ 0
unfolding zeros
get_or-zeros zero k = refl
get_or-zeros (suc count) zero = refl
get_or-zeros (suc count) (suc k) = get_or-zeros count k

after_zeros : (m : FlatMemory) (page count a : ℕ)
    → byte_after_store m page (zeros count) a ≡ (if is_in_span page count a then Some 0 else byte_at m a)
after_zeros m page count a = rw (length-zeros count, get_or-zeros count (a - page)) refl

pub byte_at-map : (m : FlatMemory) (page a : ℕ) → byte_at (mapped m page) a ≡ byte_after_map m page a
byte_at-map m page a = byte_at-store m page (zeros 4096) a ∙ after_zeros m page 4096 a

pub mapped_is : (before after : FlatMemory) (page : ℕ) → MapsPage before after page → after ≡ mapped before page
mapped_is before after page maps = same_memory after (mapped before page)
    (λ a. maps a ∙ sym (byte_at-map before page a))

pub is_mapped : (before after : FlatMemory) (page : ℕ) → after ≡ mapped before page → MapsPage before after page
is_mapped before after page same = λ a. ap (λ (m : FlatMemory). byte_at m a) same ∙ byte_at-map before page a

-- ---- addresses
end_alike : (at : ℕ) (here there : Option ℕ) (rest : RunEnd) → is_some here ≡ is_some there
    → end_from at here rest ≡ end_from at there rest
end_alike at None None rest same = refl
end_alike at None (Some other) rest same = cc
end_alike at (Some byte) None rest same = cc
end_alike at (Some byte) (Some other) rest same = refl

pub same_run_end : (m n : FlatMemory) (at k : ℕ) → SameAddresses m n → run_end m at k ≡ run_end n at k
unfolding run_end
same_run_end m n at zero same = refl
same_run_end m n at (suc k) same =
    ap (λ (rest : RunEnd). if nat_lt at (2 ^ 64) then end_from at (byte_at m at) rest else Top)
    (same_run_end m n (at + 1) k same)
    ∙ ap (λ (e : RunEnd). if nat_lt at (2 ^ 64) then e else Top)
    (end_alike at (byte_at m at) (byte_at n at) (run_end n (at + 1) k) (same at))

pub stored_same : (m : FlatMemory) (at : ℕ) (bytes : List ℕ) → run_end m at (length bytes) ≡ Full
    → SameAddresses (stored m at bytes) m
stored_same m at bytes whole = λ a. elim (among_cases at (length bytes) a) as (λ _. is_some
    (byte_at (stored m at bytes) a) ≡ is_some (byte_at m a)) [
      | inl inside ↦
          let here : at + (a - at) ≡ a = omega (arith, inside.0) in
          let there : IsSome (byte_at m (at + (a - at))) =
          (run_end-Full m at (length bytes) whole (a - at) (omega (arith, inside.0, inside.1))).1 in
          ap (λ (o : Option ℕ). is_some o) (byte_at-store m at bytes a ∙ after_inside m at a bytes inside.0 inside.1)
          ∙ sym (rw here at there)
      | inr off ↦ ap (λ (o : Option ℕ). is_some o) (byte_at-store m at bytes a ∙ after_outside m at a bytes off)
    ]
