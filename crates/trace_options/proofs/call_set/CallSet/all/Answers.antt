-- Every number is in the set of all calls.
use Rattle.trace_options.proofs.Members.{has_call-all}
use Rattle.trace_options.proofs.call_set.CallSet.all.Goals as goal

pub returns : goal.returns
returns c = has_call-all
