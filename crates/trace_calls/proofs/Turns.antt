-- A caller that waits for one row after the other: the waits before the last only looked, so the last one's answer is one
-- of the whole.
use Rattle.std.proofs.Common.{◌≡◌, ◌≢◌, ◌∙◌, ℕ, List, Option, Some, None, Result, Ok, Err, refl, subst}
use Rattle.std.specs.Prelude.{MatchOption}
use Rattle.trace_options.specs.declared.errno.Errno.{Errno}
use Rattle.trace_options.specs.declared.errno.Errno.TheVariants as errno
use Rattle.stop_history.specs.declared.roster.Row.{Row}
use Rattle.stop_history.specs.Roster.{row_at}
use Rattle.stop_table.specs.Tracer.{IsTracerHandle}
use Rattle.stop_table.proofs.Walking.{looked_on, stands_still}
use Rattle.trace_calls.specs.declared.row_status.RowStatus.{RowStatus}
use Rattle.stop_history.specs.declared.selection.Selection.{Selection}
use Rattle.stop_history.specs.declared.selection.Selection.TheVariants.{All, Tracee}
use Rattle.trace_calls.specs.Answer.{HasFound, IsRowAnswer}
use Rattle.trace_calls.specs.Handle.{CallsHandle, tracer_of}
use Rattle.stop_history.specs.WaitRequest.{anyone, claiming, one_row}
use Rattle.trace_calls.specs.Retry.{OnlyLooked}
use Rattle.trace_calls.specs.Waiting.{NoChild}
use Rattle.trace_calls.proofs.Retries.{answer_from, tried_again}

pub none_before : (a : CallsHandle) → IsTracerHandle (tracer_of a) → OnlyLooked a a
none_before a is = (refl, (refl, refl), stands_still a.view is.legal)

module _ (a c b : CallsHandle) (only : OnlyLooked a c) where
  -- a wait that reports nothing only looks
  passed : (selection : Selection) (r : Result (Option RowStatus) Errno) → b.table_id ≡ c.table_id
      → ((found : RowStatus) → r ≡ Ok (Some found) → ⊥) → IsRowAnswer (claiming selection) c b r → OnlyLooked a b
  passed selection (Ok (Some found)) table other is = absurd (other found refl)
  passed selection (Ok None) table other is = tried_again (claiming selection) a c b only (Ok None) refl is table
  passed selection (Err errno.ECHILD) table other is = (
    table ∙ only.0,
    (is.1.0 ∙ only.1.0, is.1.1 ∙ only.1.1),
    looked_on a.view c.view b.view only.2 is.0.looked,
  )
  passed selection (Err errno.EINVAL) table other is = absurd is
  passed selection (Err errno.ESRCH) table other is = absurd is
  passed selection (Err errno.EIO) table other is = absurd is

  found_by : (selection : Selection) (found : RowStatus) (r : Result (Option RowStatus) Errno) → r ≡ Ok (Some found)
      → IsRowAnswer (claiming selection) c b r → HasFound a b found
  found_by selection found r same is = (
    selection,
    answer_from (claiming selection) a c b only (Ok (Some found))
        (subst (IsRowAnswer (claiming selection) c b) same is),
  )

  pub row_found : (rows : List Row) (row : ℕ) (found : RowStatus) (r : Result (Option RowStatus) Errno)
      → r ≡ Ok (Some found) → IsRowAnswer (one_row rows row) c b r → HasFound a b found
  row_found rows row = found_by (Tracee (row_at rows row).tid)

  pub row_passed : (rows : List Row) (row : ℕ) (r : Result (Option RowStatus) Errno) → b.table_id ≡ c.table_id
      → ((found : RowStatus) → r ≡ Ok (Some found) → ⊥) → IsRowAnswer (one_row rows row) c b r → OnlyLooked a b
  row_passed rows row = passed (Tracee (row_at rows row).tid)

  -- a status that was answered, or that none was, once the wait no longer blocks
  pub any_answered : (told : Option RowStatus) (r : Result (Option RowStatus) Errno)
      → MatchOption told ((found : RowStatus) → r ≢ Ok (Some found)) (λ found. r ≡ Ok (Some found)) → r ≢ Ok None
      → IsRowAnswer anyone c b r → MatchOption told (NoChild anyone a.view b.view) (λ found. HasFound a b found)
  any_answered (Some found) r says waits is = found_by All found r says is
  any_answered None (Ok (Some found)) says waits is = absurd (says found refl)
  any_answered None (Ok None) says waits is = absurd (waits refl)
  any_answered None (Err errno.ECHILD) says waits is = (answer_from anyone a c b only (Err errno.ECHILD) is).0
  any_answered None (Err errno.EINVAL) says waits is = absurd is
  any_answered None (Err errno.ESRCH) says waits is = absurd is
  any_answered None (Err errno.EIO) says waits is = absurd is
