-- The law is a lemma on flat memory.
use Rattle.trace_pages.proofs.Runs.{run-past, run-within, run_end-past, run_end-piece}
use Rattle.trace_pages.proofs.laws.runs_are_made_of_pieces.Goals as goal

pub returns-clause-bytes : goal.returns-clause-bytes
returns-clause-bytes c = run-past

pub returns-clause-end : goal.returns-clause-end
returns-clause-end c = run_end-past

pub returns-clause-within : goal.returns-clause-within
returns-clause-within c = run-within

pub returns-clause-whole : goal.returns-clause-whole
returns-clause-whole c = run_end-piece
