-- What the end of a run says of the memory, and of the length of the run.
use Rattle.std.proofs.Common.{◌≡◌, ℕ, zero, suc, ◌+◌, ◌-◌, ◌%◌, ◌<◌, ◌^◌}
use Rattle.std.proofs.Common.{Option, Some, None, length, inl, inr, refl, sym, ap, ◌∙◌, arith}
use Rattle.std.specs.Prelude.{IsSome, is_some, false, Result, Ok, Err}
use Rattle.std.proofs.lemmas.Bool.{cases_lt}
use Rattle.trace_pages.specs.declared.fault.Fault.{Fault}
use Rattle.trace_pages.specs.FlatMemory.{FlatMemory, Full, Absent, Top, byte_at, run, run_end}
use Rattle.trace_pages.specs.Memory.{store_answer}
use Rattle.trace_pages.proofs.Runs.{length-run, length-run-Absent, length-run-Full, length-run-Top, run_end-Full}
use Rattle.trace_pages.proofs.Runs.{none_some, run_end-absent, run_end-none, run_end-step, run_end-top}
use Rattle.mem_views.specs.declared.end.End.{End}
use Rattle.mem_views.specs.declared.end.End.TheVariants as ended
use Rattle.mem_views.specs.ByteView.{bytes_end}
use Rattle.mem_views.proofs.Parts.{run_end-length}

-- the address at which a run ends is not mapped
absent_none : (m : FlatMemory) (n at first : ℕ) → run_end m at n ≡ Absent first → byte_at m first ≡ None
absent_none m zero at first is = let full = run_end-none m at in cc
absent_none m (suc n) at first is = elim (cases_lt at (2 ^ 64)) as (λ _. byte_at m first ≡ None) [
  | inr above ↦ let top = run_end-top m at (suc n) (omega arith) above in cc
  | inl below ↦ elim (byte_at m at) as (λ o. byte_at m at ≡ o → byte_at m first ≡ None) [
    | None ↦ λ none. let here = run_end-absent m at (suc n) (omega arith) below none in cc
    | Some byte ↦ λ some. absent_none m n (at + 1) first (sym (run_end-step m at n byte below some) ∙ is)
  ] refl
]

-- a run that ends with the address space has the last address
top_some : (m : FlatMemory) (at n : ℕ) → at < 2 ^ 64 → run_end m at n ≡ Top → IsSome (byte_at m (2 ^ 64 - 1))
top_some m at n below is =
    let all = length-run-Top m at n (omega arith) is in
    let last : at + (length (run m at n) - 1) ≡ 2 ^ 64 - 1 = omega arith in
    let there = run_end-Full m at (length (run m at n)) (run_end-length m at n) (length (run m at n) - 1) (omega arith) in
    rw last at there.1

-- ---- the end by the answer of a look ahead
address_in : Result (Unit {0}) Fault → ℕ
address_in (Ok done) = 0
address_in (Err fault) = fault.addr

pub top_is : (m : FlatMemory) (at n : ℕ) (fault : Fault) → IsSome (byte_at m fault.addr)
    → store_answer (run_end m at n) ≡ Err fault → ended.Top ≡ bytes_end (run_end m at n)
unfolding address_in
top_is m at n fault some answer = elim (run_end m at n) as (λ e. run_end m at n ≡ e → store_answer e ≡ Err fault
    → ended.Top ≡ bytes_end e) [
      | Full ↦ λ is h. cc
      | Absent first ↦ λ is h.
          let same : first ≡ fault.addr = ap address_in h in
          absurd (none_some (byte_at m fault.addr) (rw same at (absent_none m n at first is)) some)
      | Top ↦ λ is h. refl
    ] refl answer

pub fault_is : (m : FlatMemory) (at n : ℕ) (fault : Fault) → at < 2 ^ 64
    → (fault.addr ≡ 2 ^ 64 - 1 → byte_at m fault.addr ≡ None)
    → store_answer (run_end m at n) ≡ Err fault → ended.Fault fault.addr ≡ bytes_end (run_end m at n)
unfolding address_in
fault_is m at n fault below none answer = elim (run_end m at n) as (λ e. run_end m at n ≡ e
    → store_answer e ≡ Err fault → ended.Fault fault.addr ≡ bytes_end e) [
      | Full ↦ λ is h. cc
      | Absent first ↦ λ is h. ap (λ (a : ℕ). ended.Fault a) (sym (ap address_in h))
      | Top ↦ λ is h.
          let same : 2 ^ 64 - 1 ≡ fault.addr = ap address_in h in
          absurd (none_some (byte_at m fault.addr) (none (sym same)) (rw same at (top_some m at n below is)))
    ] refl answer

-- ---- the length by the end
first_of : End → ℕ
first_of (ended.Fault first) = first
first_of ended.Full = 0
first_of ended.Nul = 0
first_of ended.Limit = 0
first_of ended.Top = 0

round : (at long first : ℕ) → at < 2 ^ 64 → long < 2 ^ 64 → at + long ≡ first → (first + (2 ^ 64 - at)) % 2 ^ 64 ≡ long
round at long first below short is = omega arith

pub length_by_Fault : (m : FlatMemory) (at n first : ℕ) → at < 2 ^ 64 → n < 2 ^ 64
    → ended.Fault first ≡ bytes_end (run_end m at n) → (first + (2 ^ 64 - at)) % 2 ^ 64 ≡ length (run m at n)
unfolding first_of
length_by_Fault m at n first below short is = elim (run_end m at n) as (λ e. run_end m at n ≡ e
    → ended.Fault first ≡ bytes_end e → (first + (2 ^ 64 - at)) % 2 ^ 64 ≡ length (run m at n)) [
      | Full ↦ λ e h. cc
      | Absent address ↦ λ e h.
          let same : first ≡ address = ap first_of h in
          round at (length (run m at n)) first below (omega (arith, length-run m at n))
          (length-run-Absent m at n address e ∙ sym same)
      | Top ↦ λ e h. cc
    ] refl is

pub length_by_Top : (m : FlatMemory) (at n : ℕ) → at < 2 ^ 64 → n < 2 ^ 64
    → ended.Top ≡ bytes_end (run_end m at n) → (0 + (2 ^ 64 - at)) % 2 ^ 64 ≡ length (run m at n)
length_by_Top m at n below short is = elim (run_end m at n) as (λ e. run_end m at n ≡ e
    → ended.Top ≡ bytes_end e → (0 + (2 ^ 64 - at)) % 2 ^ 64 ≡ length (run m at n)) [
      | Full ↦ λ e h. cc
      | Absent address ↦ λ e h. cc
      | Top ↦ λ e h. omega (arith, length-run m at n, length-run-Top m at n (omega arith) e)
    ] refl is

pub length_by_Full : (m : FlatMemory) (at n : ℕ) (end : End) → ((first : ℕ) → end ≡ ended.Fault first → ⊥)
    → (end ≡ ended.Top → ⊥) → end ≡ bytes_end (run_end m at n) → n ≡ length (run m at n)
length_by_Full m at n end fault top is = elim (run_end m at n) as (λ e. run_end m at n ≡ e
    → end ≡ bytes_end e → n ≡ length (run m at n)) [
      | Full ↦ λ e h. sym (length-run-Full m at n e)
      | Absent address ↦ λ e h. absurd (fault address h)
      | Top ↦ λ e h. absurd (top h)
    ] refl is

pub none_is : (o : Option ℕ) → is_some o ≡ false → o ≡ None
none_is None h = refl
none_is (Some byte) h = cc
