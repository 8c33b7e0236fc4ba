-- No entry so far is broken.
use Rattle.std.proofs.Common.{◌≡◌}
use Rattle.std.specs.List.{list_any}
use Rattle.record_printer.specs.Arguments.{is_broken}
use Rattle.record_printer.proofs.call.iovecs.has_broken.Given as goal

abbrev pub invariant-loop-item : goal.invariant-loop-item
invariant-loop-item g l = list_any is_broken l.fn.items ≡ list_any is_broken l.item-iterator
