-- The text is read back.
use Rattle.record_printer.proofs.QuotedBack.{shortened_back}
use Rattle.record_printer.proofs.laws.quotes_are_one_to_one.Goals as goal

pub returns : goal.returns
returns c = shortened_back
