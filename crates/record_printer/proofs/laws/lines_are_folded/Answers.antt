use Rattle.record_printer.proofs.RowLines.{lines_folded}
use Rattle.record_printer.proofs.laws.lines_are_folded.Goals as goal

pub returns : goal.returns
returns c = lines_folded
