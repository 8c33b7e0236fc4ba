-- The bytes so far are written.
use Rattle.std.proofs.Common.{◌≡◌, ◌++◌, take}
use Rattle.std.specs.List.{flat_map}
use Rattle.record_printer.specs.Quote.{escaped}
use Rattle.record_printer.proofs.text.quote.write_block.Given as goal

abbrev pub invariant-loop-byte : goal.invariant-loop-byte
invariant-loop-byte g l = l.text.items ≡ l.fn.text.items ++ flat_map escaped (take l.byte-index l.block)
