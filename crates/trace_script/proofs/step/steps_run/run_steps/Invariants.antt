-- What is left from the step underway on leads where what was left at first leads.
use Rattle.std.proofs.Common.{◌≡◌, ◌+◌, ◌-◌, ◌*◌, length, drop}
use Rattle.trace_script.specs.Left.{left_in, most_acts}
use Rattle.trace_script.specs.Machine.{StaysAtStop}
use Rattle.trace_script.specs.StopTrace.{advance, context_of}
use Rattle.trace_script.proofs.step.steps_run.run_steps.Given as goal

abbrev pub invariant-loop-index : goal.invariant-loop-index
invariant-loop-index g l = record {
  len : length l.steps ≡ length l.fn.steps;
  on : advance l.walk.setting.now l.walk.how
      (left_in l.walk.setting.now l.walk.filled.now (drop l.index l.steps) l.at) (context_of l.held)
      ≡ advance l.walk.setting.now l.walk.how
      (left_in l.walk.setting.now l.walk.filled.now (drop l.fn.from l.fn.steps) l.fn.place) (context_of l.fn.held);
  still : StaysAtStop l.fn.held l.held;
}

abbrev pub decreases-loop-index : goal.decreases-loop-index
decreases-loop-index g l = (most_acts + 1) * (length l.steps - l.index) + (most_acts - l.at)
