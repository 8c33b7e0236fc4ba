-- The rows that a wait may be answered, found one by one and written to a buffer.
use Rattle.std.proofs.Common.{◌≡◌, ◌+◌, ℕ, Bool, true, false, List, [], ◌∷◌, ◌++◌, length, take}
use Rattle.std.proofs.Common.{refl, ap, ◌∙◌, sym, arith, cond, set, append-nil}
use Rattle.std.specs.List.{filter, range_with_len}
use Rattle.std.proofs.lemmas.List.{map-id, take_all}
use Rattle.std.proofs.lemmas.List.FromFn.{filter_of_map_range_with_len_more}
use Rattle.stop_board.specs.Waitable.{written_to}

-- the places below n + 1 that pass a test, by those below n
found_next : (test : ℕ → Bool) (n : ℕ)
    → filter test (range_with_len 0 (n + 1)) ≡ filter test (range_with_len 0 n) ++ cond (test n) (n ∷ []) []
found_next test n =
    ap (filter test) (sym (map-id (range_with_len 0 (n + 1))))
    ∙ filter_of_map_range_with_len_more test (λ (k : ℕ). k) 0 n n (omega arith)
    ∙ ap (λ (xs : List ℕ). filter test xs ++ cond (test n) (n ∷ []) []) (map-id (range_with_len 0 n))

pub found_here : (test : ℕ → Bool) (n : ℕ) → test n ≡ true
    → filter test (range_with_len 0 (n + 1)) ≡ filter test (range_with_len 0 n) ++ n ∷ []
found_here test n h = rw h at (found_next test n)

pub found_elsewhere : (test : ℕ → Bool) (n : ℕ) → test n ≡ false
    → filter test (range_with_len 0 (n + 1)) ≡ filter test (range_with_len 0 n)
found_elsewhere test n h = (rw h at (found_next test n)) ∙ append-nil (filter test (range_with_len 0 n))

nothing_taken : (n : ℕ) → take {A = ℕ} n [] ≡ []
nothing_taken n = take_all n [] (omega arith)

-- one more number in a buffer, where there is room for it
pub put_next : (found to : List ℕ) (x : ℕ)
    → set (written_to to found) (length found) x ≡ written_to to (found ++ x ∷ [])
put_next [] [] x = refl
put_next [] (t ∷ ts) x = ap (λ (ys : List ℕ). x ∷ (ys ++ ts)) (sym (nothing_taken (length ts)))
put_next (f ∷ fs) [] x = refl
put_next (f ∷ fs) (t ∷ ts) x = ap (λ (ys : List ℕ). f ∷ ys) (put_next fs ts x)
