-- What is written, and the rest in quotes, are all of it.
use Rattle.std.proofs.Common.{◌≡◌, ◌++◌, length}
use Rattle.std.specs.List.{flat_map}
use Rattle.record_printer.specs.Quote.{escaped}
use Rattle.record_printer.proofs.text.quote.write_piece.Given as goal

abbrev pub decreases-loop-rest : goal.decreases-loop-rest
decreases-loop-rest g l = length l.rest

abbrev pub invariant-loop-rest : goal.invariant-loop-rest
invariant-loop-rest g l =
    l.text.items ++ flat_map escaped l.rest ≡ l.fn.text.items ++ flat_map escaped l.fn.piece
