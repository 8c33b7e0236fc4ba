-- The bytes so far stand for themselves, if all of them were found to.
use Rattle.std.proofs.Common.{◌≡◌, take, true}
use Rattle.std.specs.List.{flat_map}
use Rattle.record_printer.specs.Quote.{escaped}
use Rattle.record_printer.proofs.text.quote.are_plain.Given as goal

abbrev pub invariant-loop-byte : goal.invariant-loop-byte
invariant-loop-byte l =
    l.plain ≡ true → flat_map escaped (take l.byte-index l.bytes) ≡ take l.byte-index l.bytes
