-- The call that is added is in the set, and the others are as before.
use Rattle.trace_options.specs.Calls.{Calls}
use Rattle.trace_options.proofs.Members.{has_call-add}
use Rattle.trace_options.proofs.call_set.CallSet.add.Goals as goal

pub returns : goal.returns
returns c =
    let calls : Calls = record { named = c.self.inside.named; others = c.self.inside.others } in
    λ other. rw (← c.self.view_is) (has_call-add calls c.args.nr other c.requires)
