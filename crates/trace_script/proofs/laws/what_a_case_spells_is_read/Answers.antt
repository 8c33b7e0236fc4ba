-- The law is a lemma: block by block, and line by line.
use Rattle.trace_script.proofs.CaseBack.{case_back}
use Rattle.trace_script.proofs.laws.what_a_case_spells_is_read.Goals as goal

pub returns : goal.returns
returns c = case_back
