-- Whether some outcome is chosen, one by one; and that a program is forbidden where none is.
use Rattle.std.proofs.Common.{refl, ◌≡◌, ◌∙◌, ◌==◌, ◌&&◌, ◌+◌, ◌∷◌, [], ℕ, Bool, true, false, not, List, Some, ap}
use Rattle.std.proofs.Common.{drop, length, sym}
use Rattle.std.specs.List.{list_any}
use Rattle.std.specs.Prelude.{filter, slice_get}
use Rattle.std.proofs.Math.Dec.{eqb-suc-zero}
use Rattle.stop_program.specs.Run.{EndedRun}
use Rattle.outcome_text.specs.Searched.{forbids}
use Rattle.outcome_text.proofs.OutcomeLines.{drop_at}

pub some_here : {X : Type 0} (test : X → Bool) (xs : List X) (i : ℕ) (x : X) → slice_get xs i ≡ Some x → test x ≡ true
    → list_any test (drop i xs) ≡ true
some_here test xs i x is passes = ap (list_any test) (drop_at xs i x is) ∙ rw passes

pub some_later : {X : Type 0} (test : X → Bool) (xs : List X) (i : ℕ) (x : X) → slice_get xs i ≡ Some x
    → test x ≡ false → list_any test (drop i xs) ≡ list_any test (drop (i + 1) xs)
some_later test xs i x is fails = ap (list_any test) (drop_at xs i x is) ∙ rw fails

none_at : {X : Type 0} (test : X → Bool) (x : X) (xs : List X) (passes : Bool) → test x ≡ passes
    → not (list_any test xs) ≡ (length (filter test xs) == 0)
    → not (list_any test (x ∷ xs)) ≡ (length (filter test (x ∷ xs)) == 0)
none_at test x xs true is none = rw is (sym (eqb-suc-zero (length (filter test xs))))
none_at test x xs false is none = rw is none

none_kept : {X : Type 0} (test : X → Bool) (xs : List X) → not (list_any test xs) ≡ (length (filter test xs) == 0)
none_kept test [] = refl
none_kept test (x ∷ xs) = none_at test x xs (test x) refl (none_kept test xs)

pub forbids_told : (requirements : List ℕ) (requires some : Bool) (test : EndedRun → Bool) (found : List EndedRun)
    → requires ≡ not (length requirements == 0) → requires ≡ true → some ≡ list_any test found
    → not some ≡ forbids requirements (filter test found)
forbids_told requirements requires some test found is needs told =
    ap not told ∙ none_kept test found
    ∙ ap (λ needed. needed && (length (filter test found) == 0)) (sym needs ∙ is)
