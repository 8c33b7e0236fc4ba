use Rattle.record_printer.proofs.Arrival.{same_lost, same_refusal, same_text}
use Rattle.record_printer.proofs.laws.order_of_arrival_changes_no_answer.Goals as goal

pub returns-clause-text : goal.returns-clause-text
returns-clause-text c = same_text

pub returns-clause-lost : goal.returns-clause-lost
returns-clause-lost c = same_lost

pub returns-clause-refusal : goal.returns-clause-refusal
returns-clause-refusal c = same_refusal
