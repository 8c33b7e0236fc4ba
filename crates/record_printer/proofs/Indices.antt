-- Texts that are made of the indices of a range, one after another.
use Rattle.std.proofs.Common.{◌≡◌, ◌++◌, ◌+◌, ◌-◌, ◌<◌, ℕ, List, suc, ap, ◌∙◌, append_assoc, arith, sym}
use Rattle.std.specs.List.{flat_map, range_with_len}

index_here : (f : ℕ → List ℕ) (i e : ℕ) → i < e
    → flat_map f (range_with_len i (e - i)) ≡ f i ++ flat_map f (range_with_len (i + 1) (e - (i + 1)))
index_here f i e more =
    let count : e - i ≡ suc (e - (i + 1)) = omega arith in
    ap (λ n. flat_map f (range_with_len i n)) count

-- the text of one more index is written
pub one_more : (f : ℕ → List ℕ) (i e : ℕ) (old new all : List ℕ) → i < e → new ≡ old ++ f i
    → old ++ flat_map f (range_with_len i (e - i)) ≡ all
    → new ++ flat_map f (range_with_len (i + 1) (e - (i + 1))) ≡ all
one_more f i e old new all more wrote so_far =
    let rest = flat_map f (range_with_len (i + 1) (e - (i + 1))) in
    ap (λ text. text ++ rest) wrote ∙ append_assoc old (f i) rest
    ∙ ap (λ text. old ++ text) (sym (index_here f i e more)) ∙ so_far
