-- The roster of the calls is that of the tracer.
use Rattle.std.proofs.Common.{◌≡◌, ◌∙◌, Some, ap, subst, sym}
use Rattle.std.specs.List.{slice_get}
use Rattle.std.proofs.lemmas.Option.{get_or_from_slice_get}
use Rattle.stop_history.specs.declared.roster.Row.{Row}
use Rattle.stop_history.specs.Roster.{nobody, row_at}
use Rattle.trace_calls.specs.Handle.{CallsHandle}
use Rattle.trace_calls.proofs.calls.Calls.tid.Goals as goal

pub returns : goal.returns
returns g c =
    let rows = c.self.inside.tracer.view.roster in
    let found = subst (λ rs. slice_get rs c.args.row ≡ Some c.row.result) c.self.invariant.roster c.row.ensures in
    let row : row_at rows c.args.row ≡ c.row.result =
    get_or_from_slice_get rows c.args.row c.row.result nobody found in
    let now : row_at c.args.self.now.view.roster c.args.row ≡ c.row.result =
    ap (λ (h : CallsHandle). row_at h.view.roster c.args.row) (sym c.self.view_is) ∙ row in
    sym (ap (λ (r : Row). r.tid) now)
