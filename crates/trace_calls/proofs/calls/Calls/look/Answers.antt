-- A look leaves all that is claimed.
use Rattle.trace_calls.proofs.Keeping.{looked_calls}
use Rattle.trace_calls.proofs.calls.Calls.look.Goals as goal

pub invariant_of-self : goal.invariant_of-self
invariant_of-self g c =
    let x = c.self.inside in
    looked_calls x.tracer c.look.new.self x.roster x.held.items x.counts.items c.handle_is_legal.ensures c.self.invariant
    c.look.ensures.shown.0
