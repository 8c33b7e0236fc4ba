-- What a scan found is kept and answered.
use Rattle.std.proofs.Common.{subst}
use Rattle.trace_calls.specs.Answer.{IsRowAnswer}
use Rattle.trace_calls.specs.Handle.{CallsHandle, handle_of, records_of}
use Rattle.trace_calls.specs.Waiting.{IsOneTry}
use Rattle.trace_calls.proofs.Settled.{answered, kept, placed}
use Rattle.trace_calls.proofs.calls.Calls.wait.Goals as goal

pub settle-requires-clause-placed : goal.settle-requires-clause-placed
settle-requires-clause-placed g c =
    let x = c.self.inside in
    placed c.args.request x.roster x.tracer c.scan-found.new.tracer x.held.items x.counts.items
    c.handle_is_legal.ensures c.self.invariant c.scan-found.result c.scan-found.ensures.finding

pub invariant_of-self : goal.invariant_of-self
invariant_of-self g c =
    let x = c.self.inside in
    kept c.args.request x.roster x.tracer c.scan-found.new.tracer x.held.items x.counts.items c.handle_is_legal.ensures
    c.self.invariant c.settle.new.held.items c.settle.new.counts.items c.settle.result c.scan-found.result
    c.scan-found.ensures.finding c.settle.ensures

pub returns-clause-answer : goal.returns-clause-answer
returns-clause-answer g c =
    let x = c.self.inside in
    subst (λ (h : CallsHandle). IsRowAnswer c.args.request h
    (handle_of c.scan-found.new.tracer c.settle.new.counts.items (records_of c.settle.new.held.items)) c.settle.result)
    c.self.view_is
    (answered c.args.request x.roster x.tracer c.scan-found.new.tracer x.held.items x.counts.items
    c.handle_is_legal.ensures c.self.invariant c.settle.new.held.items c.settle.new.counts.items c.settle.result
    c.scan-found.result c.scan-found.ensures.finding c.settle.ensures)

pub returns-clause-once : goal.returns-clause-once
returns-clause-once g c =
    subst (λ (h : CallsHandle). IsOneTry c.args.request h.view c.scan-found.new.tracer.view) c.self.view_is
    c.scan-found.ensures.once
