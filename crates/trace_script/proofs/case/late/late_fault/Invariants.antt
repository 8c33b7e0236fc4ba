-- What the steps so far leave of the first fault is that of the steps after them.
use Rattle.std.proofs.Common.{◌≡◌, drop}
use Rattle.trace_script.specs.CaseFile.{late_fault}
use Rattle.trace_script.proofs.case.late.late_fault.Given as goal

abbrev pub invariant-loop-step : goal.invariant-loop-step
invariant-loop-step g l = late_fault l.roster (drop l.step-index l.late) ≡ late_fault l.roster l.late
