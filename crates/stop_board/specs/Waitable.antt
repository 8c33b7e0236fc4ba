-- Which rows a wait may be answered, and when it has no child to wait for (waitid(2), waitpid(2)), by the states of the
-- rows.
use Rattle.std.specs.Prelude.{◌≡◌, ◌&&◌, ◌++◌, ℕ, Bool, true, List, Result, Ok, Err, length, take, drop}
use Rattle.std.specs.List.{filter, range_with_len}
use Rattle.trace_options.specs.declared.errno.Errno.{Errno}
use Rattle.trace_options.specs.declared.errno.Errno.TheVariants as errno
use Rattle.stop_history.specs.Over.{is_gone}
use Rattle.stop_history.specs.Roster.{row_at}
use Rattle.stop_history.specs.Selection.{IsSelected, is_selected}
use Rattle.stop_history.specs.State.{is_waitable_for}
use Rattle.stop_history.specs.declared.roster.Row.{Row}
use Rattle.stop_history.specs.declared.state.State.{State}
use Rattle.stop_history.specs.declared.wait_request.WaitRequest.{WaitRequest}

-- a row that the wait may be answered: it speaks of the row, and the row has a status for it
abbrev pub may_be_answered : List Row → (ℕ → State) → WaitRequest → ℕ → Bool
may_be_answered rows states request row =
    is_selected request.selection (row_at rows row) && is_waitable_for request.deaths (states row)

-- all of them, in the order of the roster
abbrev pub waitable_rows : List Row → (ℕ → State) → WaitRequest → List ℕ
waitable_rows rows states request = filter (may_be_answered rows states request) (range_with_len 0 (length rows))

-- no child to wait for: each row that the wait speaks of is unborn or reaped, or dead and not asked for
abbrev pub AreGone : List Row → (ℕ → State) → WaitRequest → Type 0
AreGone rows states request =
    (row : ℕ) → IsSelected rows request.selection row → is_gone request.deaths (states row) ≡ true

-- numbers in a buffer: as many as it has room for, in place of its first ones
abbrev pub written_to : (old numbers : List ℕ) → List ℕ
written_to old numbers = take (length old) numbers ++ drop (length numbers) old

-- how many rows there are, and in the buffer the rows; or ECHILD
abbrev pub IsWaitableAnswer : List Row → (ℕ → State) → WaitRequest → (old new : List ℕ) → Result ℕ Errno → Type 0
IsWaitableAnswer rows states request old new (Ok count) =
    (count ≡ length (waitable_rows rows states request))
    × (new ≡ written_to old (waitable_rows rows states request)) × (AreGone rows states request → ⊥)
IsWaitableAnswer rows states request old new (Err errno.ECHILD) = AreGone rows states request × (new ≡ old)
IsWaitableAnswer rows states request old new (Err errno.EINVAL) = ⊥
IsWaitableAnswer rows states request old new (Err errno.ESRCH) = ⊥
IsWaitableAnswer rows states request old new (Err errno.EIO) = ⊥
