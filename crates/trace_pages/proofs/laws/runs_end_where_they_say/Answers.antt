-- The law is a lemma on flat memory.
use Rattle.trace_pages.proofs.Runs.{length-run-Absent, length-run-Full, length-run-Top, run_end-whole}
use Rattle.trace_pages.proofs.laws.runs_end_where_they_say.Goals as goal

pub returns-clause-full : goal.returns-clause-full
returns-clause-full c = λ memory address most. (length-run-Full memory address most, run_end-whole memory address most)

pub returns-clause-absent : goal.returns-clause-absent
returns-clause-absent c = length-run-Absent

pub returns-clause-top : goal.returns-clause-top
returns-clause-top c = length-run-Top
