-- Each stop has the next number, and leaves fewer.
use Rattle.trace_script.proofs.StopNumbers.{opening_within, stays_within}
use Rattle.trace_script.proofs.Traces.{setting_stays, stop_is_next}
use Rattle.trace_script.proofs.laws.stops_are_numbered.Goals as goal

pub returns-clause-opening : goal.returns-clause-opening
returns-clause-opening c = opening_within

pub returns-clause-stays : goal.returns-clause-stays
returns-clause-stays c = stays_within

pub returns-clause-setting : goal.returns-clause-setting
returns-clause-setting c = setting_stays

pub returns-clause-stop : goal.returns-clause-stop
returns-clause-stop c = stop_is_next
