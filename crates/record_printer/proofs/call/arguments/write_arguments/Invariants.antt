-- What is written, and the arguments left, are all of them.
use Rattle.std.proofs.Common.{◌≡◌, ◌++◌, ◌-◌, ◌+◌}
use Rattle.record_printer.specs.Arguments.{arguments_text}
use Rattle.record_printer.proofs.call.arguments.write_arguments.Given as goal

abbrev pub invariant-loop-index : goal.invariant-loop-index
invariant-loop-index g l =
    l.text.items ++ arguments_text l.call.limit l.call.stop.now l.call.kinds.now l.index (l.start + l.count - l.index)
    ≡ l.fn.text.items ++ arguments_text l.call.limit l.call.stop.now l.call.kinds.now l.start l.count
