-- A row's parent stands before it.
use Rattle.stop_table.proofs.cells.Cells.+start_of.Given as goal

abbrev pub decreases-start_of : goal.decreases-start_of
decreases-start_of g l = l.row
