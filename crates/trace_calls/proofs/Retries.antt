-- A wait that tries again: the tries before the last only looked, so the last one's answer is one of the whole.
use Rattle.std.proofs.Common.{◌≡◌, ◌∙◌, ℕ, Bool, true, false, Option, Some, None, Result, Ok, Err, ap, subst, sym, set}
use Rattle.trace_options.specs.declared.errno.Errno.{Errno}
use Rattle.trace_options.specs.declared.errno.Errno.TheVariants as errno
use Rattle.stop_history.specs.Over.{is_gone}
use Rattle.stop_table.specs.Handle.{Looked}
use Rattle.stop_table.specs.View.{View}
use Rattle.stop_table.proofs.Walking.{looked_on}
use Rattle.stop_history.specs.declared.wait_request.WaitRequest.{WaitRequest}
use Rattle.stop_history.specs.State.{is_pending, is_waitable_for}
use Rattle.trace_calls.specs.declared.row_status.RowStatus.{RowStatus}
use Rattle.trace_calls.specs.Answer.{AnswersByRow, IsRowAnswer, IsStatusOf, records_with}
use Rattle.trace_calls.specs.Handle.{CallsHandle, KeepsRows}
use Rattle.trace_calls.specs.Retry.{OnlyLooked}
use Rattle.stop_history.specs.Selection.{IsSelected}
use Rattle.trace_calls.specs.Waiting.{AreGoneForGood, Found, NoChild, NothingYet, Took, WasPassed}
use Rattle.trace_calls.proofs.Points.{claimed_from, saw_from, showed_from}

module _ (request : WaitRequest) (u v w : View) (first : Looked u v) where
  same : v.roster ≡ u.roster
  same = first.grows.same.roster

  there : (row : ℕ) → IsSelected u.roster request.selection row → IsSelected v.roster request.selection row
  there row is = subst (λ rows. IsSelected rows request.selection row) (sym same) is

  passed_from : (row : ℕ) → WasPassed request.deaths v w row → WasPassed request.deaths u w row
  passed_from row = saw_from u v w row (λ at. is_waitable_for request.deaths at ≡ false) first

  pub nothing_from : NothingYet request v w → NothingYet request u w
  nothing_from n = record {
    looked = looked_on u v w first n.looked;
    passed = λ row is. passed_from row (n.passed row (there row is));
    pends = (
      n.pends.0,
      subst (λ rows. IsSelected rows request.selection n.pends.0) same n.pends.1,
      saw_from u v w n.pends.0 (λ at. is_pending at ≡ true) first n.pends.2,
    );
  }

  pub none_from : NoChild request v w → NoChild request u w
  none_from n = record {
    looked = looked_on u v w first n.looked;
    gone = λ row is.
        saw_from u v w row (λ at. is_gone request.deaths at ≡ true) first (n.gone row (there row is));
    final = λ parents.
        subst (λ rows. AreGoneForGood rows request.selection request.deaths w.seen) same (n.final parents);
  }

  took_from : (keeps : Bool) (row number status : ℕ) → Took keeps request.deaths v w row number status
      → Took keeps request.deaths u w row number status
  took_from true row number status took = showed_from request.deaths u v w row number status first took
  took_from false row number status took = claimed_from request.deaths u v w row number status first took

  pub found_from : (row number status : ℕ) → Found request v w row number status → Found request u w row number status
  found_from row number status f = (
    record {
      selected = subst (λ rows. IsSelected rows request.selection row) same f.0.selected;
      before = λ other low is. passed_from other (f.0.before other low (there other is));
    },
    took_from request.keeps row number status f.1,
  )

module _ (request : WaitRequest) (a c b : CallsHandle) (only : OnlyLooked a c) where
  found_again : (found : RowStatus) → AnswersByRow request c b found → AnswersByRow request a b found
  found_again found is = record {
    raw = is.raw;
    is_found = found_from request a.view c.view b.view only.2 found.row found.number is.raw is.is_found;
    is_status = subst (λ rows. IsStatusOf rows found.row is.raw found.status) only.2.grows.same.roster is.is_status;
    reports = is.reports;
    counts = is.counts ∙ ap (λ counts. set counts found.row found.number) only.1.0;
    records = is.records ∙ ap (records_with b.view found.row) only.1.1;
  }

  kept_rows : KeepsRows c b → KeepsRows a b
  kept_rows kept = (kept.0 ∙ only.1.0, kept.1 ∙ only.1.1)

  pub answer_from : (result : Result (Option RowStatus) Errno) → IsRowAnswer request c b result
      → IsRowAnswer request a b result
  answer_from (Ok (Some found)) is = found_again found is
  answer_from (Ok None) is = (nothing_from request a.view c.view b.view only.2 is.0, kept_rows is.1)
  answer_from (Err errno.ECHILD) is = (none_from request a.view c.view b.view only.2 is.0, kept_rows is.1)
  answer_from (Err errno.EINVAL) is = is
  answer_from (Err errno.ESRCH) is = is
  answer_from (Err errno.EIO) is = is

  pub tried_again : (result : Result (Option RowStatus) Errno) → result ≡ Ok None → IsRowAnswer request c b result
      → b.table_id ≡ c.table_id → OnlyLooked a b
  tried_again result nothing is table =
      let n = subst (IsRowAnswer request c b) nothing is in
      (table ∙ only.0, kept_rows n.1, looked_on a.view c.view b.view only.2 n.0.looked)
