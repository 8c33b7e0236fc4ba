-- What was counted, and the children of the steps that are left, are those of all from the first step on.
use Rattle.std.proofs.Common.{◌≡◌, ◌+◌, ◌-◌, ◌≤◌, ℕ, List, length, drop}
use Rattle.trace_script.specs.Births.{born_by}
use Rattle.trace_script.specs.Kept.{steps_of}
use Rattle.trace_script.proofs.machine.births.births_from.Given as goal

abbrev pub invariant-loop-at : goal.invariant-loop-at
invariant-loop-at g l = record {
  few : l.births ≤ l.at;
  counted : (filled : List ℕ) → l.births + length (born_by (steps_of filled (drop l.at l.steps)))
      ≡ length (born_by (steps_of filled (drop l.fn.from l.steps)));
}

abbrev pub decreases-loop-at : goal.decreases-loop-at
decreases-loop-at g l = length l.steps - l.at
