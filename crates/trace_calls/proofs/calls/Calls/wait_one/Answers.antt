-- What a wait for one row found is kept and answered; no other row has its thread id.
use Rattle.std.proofs.Common.{◌≡◌, ◌∙◌, ◌<◌, ap, length, subst, sym}
use Rattle.std.specs.List.{slice_get}
use Rattle.std.proofs.Common.{Some}
use Rattle.std.proofs.lemmas.Option.{get_or_from_slice_get}
use Rattle.stop_history.specs.declared.roster.Row.{Row}
use Rattle.stop_history.specs.Roster.{nobody, row_at}
use Rattle.trace_calls.specs.Answer.{IsRowAnswer}
use Rattle.trace_calls.specs.Handle.{CallsHandle, handle_of, records_of}
use Rattle.stop_history.specs.WaitRequest.{claiming}
use Rattle.stop_history.specs.Selection.{IsOnly}
use Rattle.stop_history.specs.declared.selection.Selection.TheVariants.{Tracee}
use Rattle.trace_calls.proofs.Scans.{only_row}
use Rattle.trace_calls.proofs.Settled.{answered, kept, placed}
use Rattle.trace_calls.proofs.calls.Calls.wait_one.Goals as goal

pub scan_one-found-requires-clause-one : goal.scan_one-found-requires-clause-one
scan_one-found-requires-clause-one g c =
    let x = c.self.inside in
    let rows = x.tracer.view.roster in
    let within = subst (λ (h : CallsHandle). c.args.row < length h.view.roster) (sym c.self.view_is) c.requires in
    let found = subst (λ rs. slice_get rs c.args.row ≡ Some c.row.result) c.self.invariant.roster c.row.ensures in
    let row : row_at rows c.args.row ≡ c.row.result =
    get_or_from_slice_get rows c.args.row c.row.result nobody found in
    subst (λ (r : Row). IsOnly rows (Tracee r.tid) c.args.row) row
    (only_row rows c.handle_is_legal.ensures.placed c.args.row within)

pub settle-requires-clause-placed : goal.settle-requires-clause-placed
settle-requires-clause-placed g c =
    let x = c.self.inside in
    placed (claiming (Tracee c.row.result.tid)) x.roster x.tracer c.scan_one-found.new.tracer x.held.items x.counts.items
    c.handle_is_legal.ensures c.self.invariant c.scan_one-found.result c.scan_one-found.ensures.finding

pub invariant_of-self : goal.invariant_of-self
invariant_of-self g c =
    let x = c.self.inside in
    kept (claiming (Tracee c.row.result.tid)) x.roster x.tracer c.scan_one-found.new.tracer x.held.items x.counts.items
    c.handle_is_legal.ensures c.self.invariant c.settle.new.held.items c.settle.new.counts.items c.settle.result
    c.scan_one-found.result c.scan_one-found.ensures.finding c.settle.ensures

pub returns-clause-answer : goal.returns-clause-answer
returns-clause-answer g c =
    let x = c.self.inside in
    let rows = x.tracer.view.roster in
    let found = subst (λ rs. slice_get rs c.args.row ≡ Some c.row.result) c.self.invariant.roster c.row.ensures in
    let row : row_at rows c.args.row ≡ c.row.result =
    get_or_from_slice_get rows c.args.row c.row.result nobody found in
    let now : row_at c.args.self.now.view.roster c.args.row ≡ c.row.result =
    ap (λ (h : CallsHandle). row_at h.view.roster c.args.row) (sym c.self.view_is) ∙ row in
    let after = handle_of c.scan_one-found.new.tracer c.settle.new.counts.items (records_of c.settle.new.held.items) in
    subst (λ (r : Row). IsRowAnswer (claiming (Tracee r.tid)) c.args.self.now after c.settle.result) (sym now)
    (subst (λ (h : CallsHandle). IsRowAnswer (claiming (Tracee c.row.result.tid)) h after c.settle.result) c.self.view_is
    (answered (claiming (Tracee c.row.result.tid)) x.roster x.tracer c.scan_one-found.new.tracer x.held.items
    x.counts.items c.handle_is_legal.ensures c.self.invariant c.settle.new.held.items c.settle.new.counts.items
    c.settle.result c.scan_one-found.result c.scan_one-found.ensures.finding c.settle.ensures))
