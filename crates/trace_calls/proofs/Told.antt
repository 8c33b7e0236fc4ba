-- An answer without the row and the number.
use Rattle.std.proofs.Common.{Option, Some, None, Result, Ok, Err, ap, subst, sym}
use Rattle.trace_options.specs.declared.errno.Errno.{Errno}
use Rattle.trace_options.specs.declared.errno.Errno.TheVariants as errno
use Rattle.stop_history.specs.declared.wait_request.WaitRequest.{WaitRequest}
use Rattle.trace_calls.specs.declared.row_status.RowStatus.{RowStatus}
use Rattle.trace_calls.specs.Answer.{IsRequestAnswer, IsRowAnswer, IsStatusAnswer, IsWaitAnswer, IsWaitRowAnswer}
use Rattle.trace_calls.specs.Answer.{without_row}
use Rattle.trace_calls.specs.Handle.{CallsHandle}

pub told : (request : WaitRequest) (a b : CallsHandle) (answer : Result (Option RowStatus) Errno)
    → IsRowAnswer request a b answer → IsRequestAnswer request a b (without_row answer)
told request a b (Ok (Some found)) is =
    subst (IsStatusAnswer request a b found.status) (sym is.is_status.0)
    (record {
      row = found.row;
      number = found.number;
      raw = is.raw;
      found = is.is_found;
      is_status = is.is_status;
      counts = is.counts;
      records = is.records;
    })
told request a b (Ok None) is = is
told request a b (Err errno.ECHILD) is = is
told request a b (Err errno.EINVAL) is = is
told request a b (Err errno.ESRCH) is = is
told request a b (Err errno.EIO) is = is

pub told_wait : (asked : Option WaitRequest) (a b : CallsHandle) (answer : Result (Option RowStatus) Errno)
    → IsWaitRowAnswer asked a b answer → IsWaitAnswer asked a b (without_row answer)
told_wait None a b answer is = (ap without_row is.0, is.1)
told_wait (Some request) a b answer is = told request a b answer is
