use Rattle.tracer_workers.proofs.BornRows.{same_texts}
use Rattle.tracer_workers.proofs.laws.runs_print_their_case.Goals as goal

pub returns : goal.returns
returns c = same_texts
