-- Where the only row that is selected was passed, so was each.
use Rattle.trace_calls.proofs.Scans.{one_gone, one_pending}
use Rattle.trace_calls.proofs.scan.scan_one.Goals as goal

pub returns-then-pending-clause-finding : goal.returns-then-pending-clause-finding
returns-then-pending-clause-finding g c =
    one_pending g.row.A.Denot c.args.request c.args.tracer.now.view c.take.new.tracer.view c.args.row
    c.handle_is_legal.ensures.placed c.handle_is_legal.ensures.legal c.requires.one c.in-Passes.pending c.if-pending.true
    c.in-Passes.ensures.tried

pub returns-else-pending-clause-finding : goal.returns-else-pending-clause-finding
returns-else-pending-clause-finding g c =
    one_gone g.row.A.Denot c.args.request c.args.tracer.now.view c.take.new.tracer.view c.args.row
    c.handle_is_legal.ensures.placed c.handle_is_legal.ensures.legal c.requires.one c.in-Passes.pending
    c.if-pending.false c.requires.alone c.in-Passes.ensures.tried
