-- Each born row has died, so none of its pieces is missing.
use Rattle.std.proofs.Common.{◌∙◌}
use Rattle.tracer_workers.specs.Printing.{printed_lines}
use Rattle.tracer_workers.proofs.BornRows.{same_texts}
use Rattle.tracer_workers.proofs.RunEnd.{reaped_is_dead}
use Rattle.tracer_workers.proofs.WholePieces.{nothing_is_lost, text_of_pieces}
use Rattle.tracer_workers.proofs.laws.pieces_of_a_run_are_whole.Goals as goal

pub returns-clause-lost : goal.returns-clause-lost
returns-clause-lost c = λ show plan h roster legal driven reaped.
    nothing_is_lost show plan.rows roster h legal (reaped_is_dead plan h legal driven reaped)

pub returns-clause-text : goal.returns-clause-text
returns-clause-text c = λ show plan h roster legal driven reaped.
    text_of_pieces show plan.rows roster h legal (reaped_is_dead plan h legal driven reaped)
    ∙ same_texts (printed_lines show) plan h roster legal driven reaped
