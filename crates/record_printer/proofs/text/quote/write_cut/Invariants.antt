-- What is written, and the rest of the view in quotes, are all of it.
use Rattle.std.proofs.Common.{◌≡◌, ◌++◌}
use Rattle.std.specs.List.{flat_map}
use Rattle.record_printer.specs.Quote.{escaped}
use Rattle.record_printer.proofs.text.quote.write_cut.Given as goal

abbrev pub invariant-loop-piece : goal.invariant-loop-piece
invariant-loop-piece g l =
    l.text.items ++ flat_map escaped l.piece-iterator.rest ≡ l.fn.text.items ++ flat_map escaped l.fn.cut.rest
