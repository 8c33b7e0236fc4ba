-- Logs that begin alike, by what is read and printed one after another.
use Rattle.std.proofs.Common.{◌≡◌, ◌≤◌, ℕ, arith, length, take, take-take, ◌∙◌, ap, sym}
use Rattle.stop_program.specs.Program.{Log}
use Rattle.stop_explorer.specs.OutcomeReader.{BeginAlike}

pub all_alike : (a b : Log) → a ≡ b → BeginAlike (length b) a b
all_alike a b is = record {
  first = omega (arith, ap length is);
  second = omega arith;
  same = ap (take (length b)) is;
}

-- as far as both the one and the other
pub both_alike : (n one other : ℕ) (a b c : Log) → n ≤ one → n ≤ other → BeginAlike one a b → BeginAlike other b c
    → BeginAlike n a c
both_alike n one other a b c left right first second =
    record {
      first = omega (arith, left, first.first);
      second = omega (arith, right, second.second);
      same = sym (take-take n one a left) ∙ ap (take n) first.same ∙ take-take n one b left
          ∙ sym (take-take n other b right) ∙ ap (take n) second.same ∙ take-take n other c right;
    }
