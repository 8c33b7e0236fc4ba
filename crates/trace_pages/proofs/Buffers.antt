-- Bytes that are read into a buffer, piece by piece of pages: those so far begin the run that is asked for.
use Rattle.std.proofs.Common.{[], ◌++◌, ◌≡◌, ℕ, None, zero, suc, ◌+◌, ◌-◌, ◌<◌, ◌≤◌, ◌^◌, List, length, take, drop, min}
use Rattle.std.proofs.Common.{inl, inr, refl, sym, ap, ◌∙◌, arith, append_assoc}
use Rattle.std.proofs.Math.Seq.{take-append_seam, drop-append_seam}
use Rattle.std.proofs.lemmas.Bool.{cases_lt}
use Rattle.std.proofs.lemmas.List.{append-nil, drop-drop, length-append, length-drop, length-take-le, take-append-drop}
use Rattle.std.proofs.lemmas.List.{take_all}
use Rattle.trace_pages.specs.FlatMemory.{FlatMemory, IsPiece, byte_at, run}
use Rattle.trace_pages.proofs.Runs.{run-absent, run-none, run-past, run-top, run-within}

-- the first bytes of a buffer are those of the run up to an address, and the others are as they were
pub record IsRead (m : FlatMemory) (from : ℕ) (old : List ℕ) (done at : ℕ) (new : List ℕ) : Type 0 where
  pub within : done ≤ length old
  pub long : length new ≡ length old
  pub rest : drop done new ≡ drop done old
  pub bytes : run m from (length old) ≡ take done new ++ run m at (length old - done)

pub nothing_read : (m : FlatMemory) (from : ℕ) (old : List ℕ) → IsRead m from old 0 from old
nothing_read m from old = record {
  within = omega arith;
  long = refl;
  rest = refl;
  bytes = let all : length old ≡ length old - 0 = omega arith in ap (run m from) all;
}

-- where nothing is left of the run, it is what was read
pub read_whole : (m : FlatMemory) (from : ℕ) (old : List ℕ) (done at : ℕ) (new : List ℕ)
    → IsRead m from old done at new → run m at (length old - done) ≡ []
    → (done ≡ length (run m from (length old))) × (new ≡ run m from (length old) ++ drop done old)
read_whole m from old done at new is none =
    let all : run m from (length old) ≡ take done new =
    is.bytes ∙ ap (λ (l : List ℕ). take done new ++ l) none ∙ append-nil (take done new) in
    let long : length (take done new) ≡ done = length-take-le done new (omega (arith, is.within, is.long)) in (
      sym (ap length all ∙ long),
      sym (take-append-drop done new) ∙ ap (λ (l : List ℕ). take done new ++ l) is.rest
          ∙ ap (λ (l : List ℕ). l ++ drop done old) (sym all),
    )

-- no run goes past the last address or one that is not mapped, and none has bytes that are not asked for
pub run_above : (m : FlatMemory) (at n : ℕ) → 2 ^ 64 ≤ at → run m at n ≡ []
run_above m at zero above = run-none m at
run_above m at (suc n) above = run-top m at n above

pub run_of_absent : (m : FlatMemory) (at n : ℕ) → at < 2 ^ 64 → byte_at m at ≡ None → run m at n ≡ []
run_of_absent m at zero below absent = run-none m at
run_of_absent m at (suc n) below absent = run-absent m at n below absent

pub run_of_none : (m : FlatMemory) (at n : ℕ) → n ≡ 0 → run m at n ≡ []
run_of_none m at n none = ap (run m at) none ∙ run-none m at

-- a run begins with a piece of its page, as far as it goes
run_begun : (m : FlatMemory) (at n count : ℕ) (piece : List ℕ) → at < 2 ^ 64 → IsPiece m at piece
    → count ≡ min (length piece) n → run m at n ≡ take count piece ++ run m (at + count) (n - count)
run_begun m at n count piece below is least = elim (cases_lt (length piece) n) [
  | inl longer ↦
      let same : count ≡ length piece = omega arith in
      rw same (rw (take_all (length piece) piece (omega arith)) (run-past m at n piece below is (omega arith)))
  | inr shorter ↦
      let same : count ≡ n = omega arith in
      let none : n - n ≡ 0 = omega arith in
      rw same (run-within m at n piece below is (omega arith)
      ∙ sym (ap (λ (l : List ℕ). take n piece ++ l) (run_of_none m (at + n) (n - n) none)
      ∙ append-nil (take n piece)))
]

-- one more piece
pub read_more : (m : FlatMemory) (from : ℕ) (old : List ℕ) (done at : ℕ) (new : List ℕ)
    → IsRead m from old done at new → at < 2 ^ 64
    → (piece : List ℕ) → IsPiece m at piece → (count : ℕ) → count ≡ min (length piece) (length old - done)
    → (next : List ℕ) → next ≡ take done new ++ take count piece ++ drop (done + length (take count piece)) new
    → IsRead m from old (done + count) (at + count) next
read_more m from old done at new is below piece of count least next put =
    let front = take done new ++ take count piece in
    let piece_long : length (take count piece) ≡ count = length-take-le count piece (omega arith) in
    let put_on : next ≡ front ++ drop (done + count) new =
    put ∙ ap (λ (k : ℕ). front ++ drop (done + k) new) piece_long in
    let front_long : length front ≡ done + count = omega (
      arith,
      length-append (take done new) (take count piece),
      length-take-le done new (omega (arith, is.within, is.long)),
      piece_long,
    ) in
    let left : length old - done - count ≡ length old - (done + count) = omega arith in
    let after : drop (done + count) next ≡ drop (done + count) new =
    ap (λ (l : List ℕ). drop (done + count) l) put_on
    ∙ ap (λ (k : ℕ). drop k (front ++ drop (done + count) new)) (sym front_long)
    ∙ drop-append_seam front (drop (done + count) new) in
    let before : take (done + count) next ≡ front =
    ap (λ (l : List ℕ). take (done + count) l) put_on
    ∙ ap (λ (k : ℕ). take k (front ++ drop (done + count) new)) (sym front_long)
    ∙ take-append_seam front (drop (done + count) new) in
    record {
      within = omega (arith, is.within);
      long = ap length put_on ∙ length-append front (drop (done + count) new)
          ∙ omega (arith, front_long, is.long, is.within, length-drop (done + count) new);
      rest = after ∙ sym (drop-drop count done new) ∙ ap (λ (l : List ℕ). drop count l) is.rest
          ∙ drop-drop count done old;
      bytes = is.bytes ∙ ap (λ (l : List ℕ). take done new ++ l) (run_begun m at (length old - done) count piece below of least)
          ∙ sym (append_assoc (take done new) (take count piece) (run m (at + count) (length old - done - count)))
          ∙ ap (λ (n : ℕ). front ++ run m (at + count) n) left
          ∙ ap (λ (l : List ℕ). l ++ run m (at + count) (length old - (done + count))) (sym before);
    }
