-- What is written, and the entries left, are all of them.
use Rattle.std.proofs.Common.{◌≡◌, ◌++◌, true}
use Rattle.record_printer.specs.Arguments.{entries_text}
use Rattle.record_printer.proofs.call.iovecs.write_entries.Given as goal

abbrev pub invariant-loop-item : goal.invariant-loop-item
invariant-loop-item g l =
    l.text.items ++ entries_text l.call.limit l.call.stop.now.memory l.is_first l.left l.item-iterator
    ≡ l.fn.text.items ++ entries_text l.call.limit l.call.stop.now.memory true l.fn.left l.fn.items
