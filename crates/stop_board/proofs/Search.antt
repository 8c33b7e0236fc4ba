-- The first number of a range that passes a test, step by step.
use Rattle.std.proofs.Common.{◌≡◌, ◌+◌, ◌-◌, ◌<◌, ℕ, suc, Bool, true, false, Some, arith, ◌∙◌, ap}
use Rattle.std.specs.List.{find, range_with_len}

begins : (i n : ℕ) → i < n → n - i ≡ suc (n - (i + 1))
begins i n h = omega arith

pub find_here : (test : ℕ → Bool) (i n : ℕ) → i < n → test i ≡ true → find test (range_with_len i (n - i)) ≡ Some i
find_here test i n h passes = ap (λ k. find test (range_with_len i k)) (begins i n h) ∙ rw passes

pub find_later : (test : ℕ → Bool) (i n : ℕ) → i < n → test i ≡ false
    → find test (range_with_len i (n - i)) ≡ find test (range_with_len (i + 1) (n - (i + 1)))
find_later test i n h fails = ap (λ k. find test (range_with_len i k)) (begins i n h) ∙ rw fails

pub ruleset search_steps = (find_here, find_later)
