-- Where a run ends says how long it is.
use Rattle.std.proofs.Common.{arith, sym, ◌∙◌}
use Rattle.mem_views.proofs.Ends.{length_by_Fault, length_by_Full, length_by_Top}
use Rattle.mem_views.proofs.runs.length_of_run.Goals as goal

pub returns-in-Fault : goal.returns-in-Fault
returns-in-Fault c = λ memory is. length_by_Fault memory c.args.addr c.args.count c.in-Fault.first
    (omega arith) (omega arith) (sym c.in-Fault.is ∙ is)

pub returns-in-Top : goal.returns-in-Top
returns-in-Top c = λ memory is. length_by_Top memory c.args.addr c.args.count
    (omega arith) (omega arith) (sym c.in-Top.is ∙ is)

pub returns-in_default : goal.returns-in_default
returns-in_default c = λ memory is. length_by_Full memory c.args.addr c.args.count c.args.end
    c.in_default.not-Fault c.in_default.not-Top is
