-- What is found from the step underway on is what is found from the first one on.
use Rattle.std.proofs.Common.{◌≡◌, ◌+◌, ◌-◌, ◌*◌, length, drop}
use Rattle.trace_script.specs.Left.{left_in, most_acts}
use Rattle.trace_script.specs.LookAhead.{look_over}
use Rattle.trace_script.proofs.step.look_ahead.look_ahead.Given as goal

abbrev pub invariant-loop-index : goal.invariant-loop-index
invariant-loop-index g l =
    look_over l.walk.setting.now l.walk.how
    (left_in l.walk.setting.now l.walk.filled.now (drop l.index l.steps) l.at) l.now
    ≡ look_over l.walk.setting.now l.walk.how
    (left_in l.walk.setting.now l.walk.filled.now (drop l.fn.from l.fn.steps) l.fn.place) l.fn.memory

abbrev pub decreases-loop-index : goal.decreases-loop-index
decreases-loop-index g l = (most_acts + 1) * (length l.steps - l.index) + (most_acts - l.at)
