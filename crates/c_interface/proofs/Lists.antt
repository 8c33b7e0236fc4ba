-- Lists by place.
use Rattle.std.proofs.Common.{refl, ◌≡◌, ◌<◌, ◌≤◌, ◌+◌, ◌∷◌, ◌++◌, [], ℕ, zero, suc, min, Bool, false, List, Some}
use Rattle.std.proofs.Common.{length, filter, map, take, drop, set, get_or, ◌∙◌, sym, ap, arith, cond, inl, inr}
use Rattle.std.specs.List.{range_with_len, slice_get}
use Rattle.std.proofs.lemmas.Bool.{cases_lt}
use Rattle.std.proofs.lemmas.List.{append_assoc, drop_all, drop_more, length-map, length-take-le, map_more, set_at, take_all}

pub at_end : {A : Type 0} (xs : List A) (x : A) → slice_get (xs ++ x ∷ []) (length xs) ≡ Some x
at_end [] x = refl
at_end (y ∷ xs) x = at_end xs x

pub in_front : {A : Type 0} (xs ys : List A) (k : ℕ) (x : A) → slice_get xs k ≡ Some x
    → slice_get (xs ++ ys) k ≡ Some x
in_front [] ys k x at = cc
in_front (y ∷ xs) ys zero x at = at
in_front (y ∷ xs) ys (suc k) x at = in_front xs ys k x at

-- a filter leaves nothing of numbers that do not pass
pub none_pass : (f : ℕ → Bool) (start count : ℕ) → ((k : ℕ) → start ≤ k → k < start + count → f k ≡ false)
    → filter f (range_with_len start count) ≡ []
none_pass f start zero none = refl
none_pass f start (suc count) none =
    let rest = filter f (range_with_len (start + 1) count) in
    ap (λ b. cond b (start ∷ rest) rest) (none start (omega arith) (omega arith))
    ∙ none_pass f (start + 1) count (λ k low high. none k (omega arith) (omega arith))

-- ---- a list that is copied over another, each item as f makes it

pub copied_more : {A B : Type 0} (f : A → B) (xs : List A) (ys : List B) (i : ℕ) (d : A) → i < length xs → i < length ys
    → set (map f (take i xs) ++ drop i ys) i (f (get_or xs i d)) ≡ map f (take (i + 1) xs) ++ drop (i + 1) ys
copied_more f xs ys i d low room =
    let x = f (get_or xs i d) in
    let front = map f (take i xs) in
    let long : length front ≡ i = length-map (take i xs) f ∙ length-take-le i xs (omega arith) in
    ap (λ rest. set (front ++ rest) i x) (drop_more ys i x room)
    ∙ set_at front (get_or ys i x) (drop (i + 1) ys) x i long
    ∙ sym (append_assoc front (x ∷ []) (drop (i + 1) ys))
    ∙ ap (λ more. more ++ drop (i + 1) ys) (sym (map_more f xs i d low))

-- to the end of the shorter one
pub copied_all : {A B : Type 0} (f : A → B) (xs : List A) (ys : List B) (i : ℕ) → i ≡ min (length ys) (length xs)
    → map f (take i xs) ++ drop i ys ≡ map f (take (length ys) xs) ++ drop (length xs) ys
copied_all f xs ys i is =
    elim (cases_lt (length xs) (length ys)) [
      | inl short ↦
          let at : i ≡ length xs = omega arith in
          let all : take i xs ≡ take (length ys) xs =
          take_all i xs (omega arith) ∙ sym (take_all (length ys) xs (omega arith)) in
          ap (λ rows. map f rows ++ drop i ys) all ∙ ap (λ n. map f (take (length ys) xs) ++ drop n ys) at
      | inr long ↦
          let at : i ≡ length ys = omega arith in
          let none : drop i ys ≡ drop (length xs) ys =
          drop_all i ys (omega arith) ∙ sym (drop_all (length xs) ys long) in
          ap (λ n. map f (take n xs) ++ drop i ys) at ∙ ap (λ rest. map f (take (length ys) xs) ++ rest) none
    ]
