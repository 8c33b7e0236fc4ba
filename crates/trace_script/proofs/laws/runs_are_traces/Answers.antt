-- One stop after the other, and the end.
use Rattle.trace_script.proofs.Traces.{beginning, from_opening, the_death, the_fault}
use Rattle.trace_script.proofs.laws.runs_are_traces.Goals as goal

pub returns-clause-stops : goal.returns-clause-stops
returns-clause-stops c = beginning

pub returns-clause-death : goal.returns-clause-death
returns-clause-death c = the_death

pub returns-clause-fault : goal.returns-clause-fault
returns-clause-fault c = the_fault

pub returns-clause-opening : goal.returns-clause-opening
returns-clause-opening c = from_opening
