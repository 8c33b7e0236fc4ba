-- Whether or not it could be written whole, a beginning of the failure's text is written.
use Rattle.outcome_text.proofs.TextOfParts.{begun_by}
use Rattle.tracer_cli.proofs.entry.fail.Goals as goal

pub returns-clause-begun : goal.returns-clause-begun
returns-clause-begun g c = begun_by c.report.result _ _ _ c.report.ensures.ok c.report.ensures.cut_off
