-- Parts of a run: it is its first bytes and then the rest, and it is a whole run of its own length.
use Rattle.std.proofs.Common.{[], ◌∷◌, ◌++◌, ◌≡◌, ℕ, zero, suc, ◌+◌, ◌-◌, ◌<◌, ◌≤◌, ◌^◌}
use Rattle.std.proofs.Common.{Some, None, List, length, take, inl, inr, refl, sym, ap, ◌∙◌, arith}
use Rattle.std.proofs.lemmas.Bool.{cases_lt}
use Rattle.std.proofs.Math.Seq.{take-append_seam}
use Rattle.trace_pages.specs.FlatMemory.{FlatMemory, Full, byte_at, run, run_end}
use Rattle.trace_pages.proofs.Runs.{length-run-Full, run-absent, run-none, run-step, run-top}
use Rattle.trace_pages.proofs.Runs.{run_end-Full, run_end-none, run_end-step, some_is}

-- the first byte of a run that is whole is there
pub first_there : (m : FlatMemory) (at n : ℕ) → run_end m at (suc n) ≡ Full
    → (at < 2 ^ 64) × ((byte : ℕ) × (byte_at m at ≡ Some byte))
first_there m at n whole =
    let here : at + 0 ≡ at = omega arith in
    let first = run_end-Full m at (suc n) whole 0 (omega arith) in
    (omega (arith, first.0), rw here at (some_is (byte_at m (at + 0)) first.1))

rest_whole : (m : FlatMemory) (at n : ℕ) → run_end m at (suc n) ≡ Full → run_end m (at + 1) n ≡ Full
rest_whole m at n whole =
    let first = first_there m at n whole in sym (run_end-step m at n first.1.0 first.0 first.1.1) ∙ whole

pub run-append : (m : FlatMemory) (at k n : ℕ) → run_end m at k ≡ Full
    → run m at (k + n) ≡ run m at k ++ run m (at + k) n
run-append m at zero n whole =
    let none : 0 + n ≡ n = omega arith in
    let here : at ≡ at + 0 = omega arith in
    ap (run m at) none ∙ ap (λ (a : ℕ). run m a n) here
    ∙ ap (λ (bytes : List ℕ). bytes ++ run m (at + 0) n) (sym (run-none m at))
run-append m at (suc k) n whole =
    let first = first_there m at k whole in
    let next : suc k + n ≡ suc (k + n) = omega arith in
    let on : at + 1 + k ≡ at + suc k = omega arith in
    ap (run m at) next ∙ run-step m at (k + n) first.1.0 first.0 first.1.1
    ∙ ap (λ (bytes : List ℕ). first.1.0 ∷ bytes) (run-append m (at + 1) k n (rest_whole m at k whole))
    ∙ ap (λ (a : ℕ). first.1.0 ∷ (run m (at + 1) k ++ run m a n)) on
    ∙ ap (λ (bytes : List ℕ). bytes ++ run m (at + suc k) n) (sym (run-step m at k first.1.0 first.0 first.1.1))

pub run_end-append : (m : FlatMemory) (at k n : ℕ) → run_end m at k ≡ Full
    → run_end m at (k + n) ≡ run_end m (at + k) n
run_end-append m at zero n whole =
    let none : 0 + n ≡ n = omega arith in
    let here : at ≡ at + 0 = omega arith in
    ap (run_end m at) none ∙ ap (λ (a : ℕ). run_end m a n) here
run_end-append m at (suc k) n whole =
    let first = first_there m at k whole in
    let next : suc k + n ≡ suc (k + n) = omega arith in
    let on : at + 1 + k ≡ at + suc k = omega arith in
    ap (run_end m at) next ∙ run_end-step m at (k + n) first.1.0 first.0 first.1.1
    ∙ run_end-append m (at + 1) k n (rest_whole m at k whole) ∙ ap (λ (a : ℕ). run_end m a n) on

-- the first bytes of a run that is whole are
front_whole : (m : FlatMemory) (at k n : ℕ) → run_end m at (k + n) ≡ Full → run_end m at k ≡ Full
front_whole m at zero n whole = run_end-none m at
front_whole m at (suc k) n whole =
    let next : suc k + n ≡ suc (k + n) = omega arith in
    let all : run_end m at (suc (k + n)) ≡ Full = ap (run_end m at) (sym next) ∙ whole in
    let first = first_there m at (k + n) all in
    run_end-step m at k first.1.0 first.0 first.1.1 ∙ front_whole m (at + 1) k n (rest_whole m at (k + n) all)

pub run_end-front : (m : FlatMemory) (at k n : ℕ) → k ≤ n → run_end m at n ≡ Full → run_end m at k ≡ Full
run_end-front m at k n within whole =
    let all : k + (n - k) ≡ n = omega arith in
    front_whole m at k (n - k) (ap (run_end m at) all ∙ whole)

-- ---- a run is a whole run of its own length
IsWhole : FlatMemory → ℕ → List ℕ → Type 0
IsWhole m at bytes = (run_end m at (length bytes) ≡ Full) × (run m at (length bytes) ≡ bytes)

none_whole : (m : FlatMemory) (at : ℕ) → IsWhole m at []
unfolding IsWhole
none_whole m at = (run_end-none m at, run-none m at)

more_whole : (m : FlatMemory) (at byte : ℕ) (bytes : List ℕ) → at < 2 ^ 64 → byte_at m at ≡ Some byte
    → IsWhole m (at + 1) bytes → IsWhole m at (byte ∷ bytes)
unfolding IsWhole
more_whole m at byte bytes below is whole = (
  run_end-step m at (length bytes) byte below is ∙ whole.0,
  run-step m at (length bytes) byte below is ∙ ap (λ (xs : List ℕ). byte ∷ xs) whole.1,
)

run_whole : (m : FlatMemory) (n at : ℕ) → IsWhole m at (run m at n)
run_whole m zero at = rw (run-none m at) (none_whole m at)
run_whole m (suc n) at = elim (cases_lt at (2 ^ 64)) as (λ _. IsWhole m at (run m at (suc n))) [
  | inr above ↦ rw (run-top m at n above) (none_whole m at)
  | inl below ↦ elim (byte_at m at) as (λ o. byte_at m at ≡ o → IsWhole m at (run m at (suc n))) [
    | None ↦ λ is. rw (run-absent m at n below is) (none_whole m at)
    | Some byte ↦ λ is. rw (run-step m at n byte below is)
        (more_whole m at byte (run m (at + 1) n) below is (run_whole m n (at + 1)))
  ] refl
]

pub run-length : (m : FlatMemory) (at n : ℕ) → run m at (length (run m at n)) ≡ run m at n
unfolding IsWhole
run-length m at n = (run_whole m n at).1

pub run_end-length : (m : FlatMemory) (at n : ℕ) → run_end m at (length (run m at n)) ≡ Full
unfolding IsWhole
run_end-length m at n = (run_whole m n at).0

-- the first bytes of a run are a whole run
take_front : (k : ℕ) (a b : List ℕ) → length a ≡ k → take k (a ++ b) ≡ a
take_front k a b long = sym (ap (λ (i : ℕ). take i (a ++ b)) long) ∙ take-append_seam a b

pub run-take : (m : FlatMemory) (at n k : ℕ) → k ≤ length (run m at n) → run m at k ≡ take k (run m at n)
run-take m at n k within =
    let long = length (run m at n) in
    let all : k + (long - k) ≡ long = omega arith in
    let whole : run_end m at k ≡ Full = run_end-front m at k long within (run_end-length m at n) in
    sym (take_front k (run m at k) (run m (at + k) (long - k)) (length-run-Full m at k whole))
    ∙ ap (take k) (sym (run-append m at k (long - k) whole) ∙ ap (run m at) all ∙ run-length m at n)

pub run_end-take : (m : FlatMemory) (at n k : ℕ) → k ≤ length (run m at n) → run_end m at k ≡ Full
run_end-take m at n k within = run_end-front m at k (length (run m at n)) within (run_end-length m at n)
