-- The end by the answer of the look ahead.
use Rattle.std.proofs.Common.{arith, sym, ◌∙◌}
use Rattle.mem_views.proofs.runs.end_of_run.Goals as goal

pub returns-in-Err : goal.returns-in-Err
returns-in-Err g c = c.end_at.ensures c.args.addr c.args.count (omega arith)
    (sym c.check_run.ensures ∙ c.in-Err.is)
