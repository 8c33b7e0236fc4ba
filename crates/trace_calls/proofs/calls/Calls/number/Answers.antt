-- A claimed record is the one that was published, with what has been written.
use Rattle.trace_calls.proofs.Keeping.{has_records}
use Rattle.trace_calls.proofs.calls.Calls.number.Goals as goal

pub returns-clause-records : goal.returns-clause-records
returns-clause-records g c =
    let x = c.self.inside in
    has_records c.args.self.now x.tracer x.roster x.held.items x.counts.items c.self.view_is c.self.invariant
