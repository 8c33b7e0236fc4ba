-- What is left is mapped at each stop.
use Rattle.trace_script.proofs.Fills.{runs_never_fault, traces_never_fault}
use Rattle.trace_script.proofs.laws.mapped_fills_never_fault.Goals as goal

pub returns-clause-trace : goal.returns-clause-trace
returns-clause-trace c = λ policy s script mapped. traces_never_fault policy s script 0 _ _ mapped

pub returns-clause-run : goal.returns-clause-run
returns-clause-run c = runs_never_fault
