-- The interval is halved.
use Rattle.std.proofs.Common.{◌-◌}
use Rattle.outcome_text.proofs.forbidden.+first_unmet.Given as goal

abbrev pub decreases-first_unmet : goal.decreases-first_unmet
decreases-first_unmet l = l.high - l.low
