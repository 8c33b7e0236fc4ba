-- A signal that can arrive is one of Linux's.
use Rattle.trace_script.proofs.Births.{arriving_in_range}
use Rattle.trace_script.proofs.Cases.{known}
use Rattle.trace_script.proofs.laws.scripts_of_cases_are_in_range.Goals as goal

pub returns : goal.returns
returns c = λ content row script is there.
    let it = known content row script is there in (it, arriving_in_range script.steps it.signals)
