-- What another has claimed shows as claimed, or reaped.
use Rattle.stop_table.proofs.Answering.{lost_death, lost_stop}
use Rattle.stop_table.proofs.laws.what_was_lost_is_claimed_or_reaped.Goals as goal

pub returns-clause-stop : goal.returns-clause-stop
returns-clause-stop c = λ look v w row h there lost number status. lost_stop look v w row h there lost number status

pub returns-clause-death : goal.returns-clause-death
returns-clause-death c = λ look v w row h there lost number status. lost_death look v w row h there lost number status
