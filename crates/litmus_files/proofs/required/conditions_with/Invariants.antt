-- The conditions so far, and those that are left, are all of them.
use Rattle.std.proofs.Common.{◌≡◌, ◌++◌, drop}
use Rattle.litmus_files.specs.Required.{conditions_with}
use Rattle.litmus_files.proofs.required.conditions_with.Given as goal

abbrev pub invariant-loop-numbered : goal.invariant-loop-numbered
invariant-loop-numbered g l =
    l.some.items ++ conditions_with l.count (drop l.numbered-index l.conditions) ≡ conditions_with l.count l.conditions
