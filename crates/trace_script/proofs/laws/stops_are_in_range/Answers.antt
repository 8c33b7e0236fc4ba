-- What comes next, and what a script says at first.
use Rattle.trace_script.proofs.Births.{good_next, good_script, reported_script, unreported_script}
use Rattle.trace_script.proofs.laws.stops_are_in_range.Goals as goal

pub returns-clause-next : goal.returns-clause-next
returns-clause-next c = λ p how x range good. good_next p.setting how p.left x range good

pub returns-clause-opening : goal.returns-clause-opening
returns-clause-opening c = good_script

pub returns-clause-births : goal.returns-clause-births
returns-clause-births c = reported_script

pub returns-clause-no_births : goal.returns-clause-no_births
returns-clause-no_births c = unreported_script
