-- The rows that a tracer has claimed are as they were.
use Rattle.stop_table.proofs.Own.{claim_stays, claim_stays_beside}
use Rattle.stop_table.proofs.laws.claims_stay.Goals as goal

pub returns-clause-looks : goal.returns-clause-looks
returns-clause-looks c = claim_stays

pub returns-clause-events : goal.returns-clause-events
returns-clause-events c = claim_stays_beside
