-- The first piece of a run that is whole, and what is left behind it.
use Rattle.std.proofs.Common.{◌++◌, ◌≡◌, ℕ, ◌+◌, ◌-◌, ◌%◌, ◌<◌, ◌≤◌, ◌^◌}
use Rattle.std.proofs.Common.{List, length, take, inl, inr, refl, sym, ap, ◌∙◌, arith}
use Rattle.std.proofs.lemmas.Bool.{cases_lt}
use Rattle.std.proofs.lemmas.List.{length-append, length-take-le}
use Rattle.trace_pages.specs.FlatMemory.{FlatMemory, IsPiece, Full, run, run_end}
use Rattle.trace_pages.proofs.Runs.{length-run-Full, run-none, run-within, run_end-Full, run_end-none}
use Rattle.mem_views.specs.declared.end.End.{End}
use Rattle.mem_views.specs.ByteView.{Cut, Gives, cut_of}
use Rattle.mem_views.proofs.Parts.{run-append, run_end-append, run_end-front}

module _ (m : FlatMemory) (at left k : ℕ) (piece : List ℕ) (below : at < 2 ^ 64) (is : IsPiece m at piece)
    (within : k ≤ length piece) (few : k ≤ left) (whole : run_end m at left ≡ Full) where
  long : length (take k piece) ≡ k
  long = length-take-le k piece within

  front_whole : run_end m at k ≡ Full
  front_whole = run_end-front m at k left few whole

  pub run-front : run m at left
      ≡ take k piece ++ run m (at + length (take k piece)) (left - length (take k piece))
  run-front =
      let all : left ≡ k + (left - k) = omega arith in
      rw long (ap (run m at) all ∙ run-append m at k (left - k) front_whole
      ∙ ap (λ (bytes : List ℕ). bytes ++ run m (at + k) (left - k)) (run-within m at k piece below is within))

  pub run_end-front_rest : run_end m (at + length (take k piece)) (left - length (take k piece)) ≡ Full
  run_end-front_rest =
      let all : left ≡ k + (left - k) = omega arith in
      rw long (sym (ap (run_end m at) all ∙ run_end-append m at k (left - k) front_whole) ∙ whole)

-- what a view with these fields shows
abbrev pub viewed : FlatMemory → ℕ → ℕ → ℕ → End → Cut
viewed m at left len end = record { at = at; rest = run m at left; len = len; end = end }

pub viewed-new : (m : FlatMemory) (at left : ℕ) (end : End) → run_end m at left ≡ Full
    → viewed m at left left end ≡ cut_of at (run m at left) end
viewed-new m at left end whole =
    ap (λ (len : ℕ). viewed m at left len end) (sym (length-run-Full m at left whole))

round : (at long : ℕ) → at + long < 2 ^ 64 → (at + long) % 2 ^ 64 ≡ at + long
round at long below = omega arith

module _ (m : FlatMemory) (at left len new : ℕ) (end : End) (piece : List ℕ)
    (next : new ≡ (at + length piece) % 2 ^ 64)
    (front : run m at left ≡ piece ++ run m (at + length piece) (left - length piece))
    (whole : run_end m (at + length piece) (left - length piece) ≡ Full)
    (some : 0 < length piece) (within : length piece ≤ left) (in_page : at % 4096 + length piece ≤ 4096)
    (page_end : length piece < left → at % 4096 + length piece ≡ 4096) where
  goes_on : length piece < left → new ≡ at + length piece
  goes_on more =
      let first = (run_end-Full m (at + length piece) (left - length piece) whole 0 (omega arith)).0 in
      next ∙ round at (length piece) (omega arith)

  Rest : Type 0
  Rest = (run m new (left - length piece) ≡ run m (at + length piece) (left - length piece))
      × (run_end m new (left - length piece) ≡ Full)

  same : Rest
  unfolding Rest
  same = elim (cases_lt (length piece) left) [
    | inl more ↦ rw (goes_on more) (refl, whole)
    | inr done ↦
        let none : left - length piece ≡ 0 = omega arith in
        rw none (run-none m new ∙ sym (run-none m (at + length piece)), run_end-none m new)
  ]

  pub rest_whole : run_end m new (left - length piece) ≡ Full
  unfolding Rest
  rest_whole = same.1

  pub next_gives : Gives (viewed m at left len end) (viewed m new (left - length piece) len end) piece
  unfolding Rest
  next_gives = record {
    front = front ∙ ap (λ (bytes : List ℕ). piece ++ bytes) (sym same.0);
    some = some;
    in_page = in_page;
    on = elim (cases_lt (length piece) left) [
      | inl more ↦ inr (goes_on more, rw (goes_on more) (omega (arith, page_end more)))
      | inr done ↦
          let none : left - length piece ≡ 0 = omega arith in
          inl (rw none (run-none m new))
    ];
    len = refl;
    end = refl;
  }

-- a piece makes what is left shorter
pub shorter : {old new : Cut} {piece : List ℕ} → Gives old new piece → length new.rest < length old.rest
shorter {old} {new} {piece} gives =
    let long = length-append piece new.rest in
    let all : length old.rest ≡ length (piece ++ new.rest) = ap length gives.front in
    let some : 0 < length piece = gives.some in
    omega arith
