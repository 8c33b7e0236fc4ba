-- A tracee is left as it was, or it has run and is at rest.
use Rattle.std.proofs.Common.{◌∙◌}
use Rattle.system_tests.proofs.workers.start_word.run_when_told.Goals as goal

pub returns : goal.returns
returns g c = λ id rows free. record {
  table = c.run_tracee.ensures.handle.0.0 ∙ free.table;
  roster = c.run_tracee.ensures.handle.0.2.roster ∙ free.roster;
  idle = c.run_tracee.ensures.handle.1;
}
