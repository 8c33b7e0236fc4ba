-- The calls so far are asked well, and go on.
use Rattle.std.proofs.Common.{◌≡◌, length}
use Rattle.log_checker.specs.LoggedCall.{IsInLine, IsAskedWell}
use Rattle.log_checker.proofs.tests.thread_of.Given as goal

abbrev pub invariant-loop-at : goal.invariant-loop-at
invariant-loop-at g l = record {
  many : length l.own.items ≡ l.at;
  asked : IsAskedWell l.own.items;
  onward : IsInLine l.own.items;
}
