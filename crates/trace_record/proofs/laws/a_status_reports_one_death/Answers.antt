-- The law is a lemma on raw statuses.
use Rattle.trace_record.proofs.Deaths.{same_death}
use Rattle.trace_record.proofs.laws.a_status_reports_one_death.Goals as goal

pub returns : goal.returns
returns c = same_death
