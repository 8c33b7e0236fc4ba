-- The first number of a range that passes a test, one by one.
use Rattle.std.proofs.Common.{◌≡◌, ◌<◌, ◌≤◌, ◌+◌, ◌-◌, ℕ, Bool, true, false, None, Some, arith, ◌∙◌, ap}
use Rattle.std.specs.List.{find, range_with_len}
use Rattle.stop_program.proofs.AnyRow.{range_next}

pub first_here : (test : ℕ → Bool) (i n : ℕ) → i < n → test i ≡ true → find test (range_with_len i (n - i)) ≡ Some i
first_here test i n h passes = ap (find test) (range_next i n h) ∙ rw passes

pub first_later : (test : ℕ → Bool) (i n : ℕ) → i < n → test i ≡ false
    → find test (range_with_len i (n - i)) ≡ find test (range_with_len (i + 1) (n - (i + 1)))
first_later test i n h fails = ap (find test) (range_next i n h) ∙ rw fails

none_left : (i n : ℕ) → n ≤ i → n - i ≡ 0
none_left i n h = omega arith

pub first_over : (test : ℕ → Bool) (i n : ℕ) → n ≤ i → find test (range_with_len i (n - i)) ≡ None
first_over test i n h = ap (λ k. find test (range_with_len i k)) (none_left i n h)

pub ruleset first_steps = (first_here, first_later, first_over)
