-- The copies, and the steps that are left, are the steps, whatever the bytes of their fills.
use Rattle.std.proofs.Common.{◌≡◌, ◌++◌, ℕ, List, drop}
use Rattle.trace_script.specs.Kept.{steps_of}
use Rattle.trace_script.proofs.script.copies.copy_steps.Given as goal

abbrev pub invariant-loop-step : goal.invariant-loop-step
invariant-loop-step g l =
    (filled : List ℕ) → steps_of filled l.copies.items ++ steps_of filled (drop l.step-index l.steps)
    ≡ steps_of filled l.steps
