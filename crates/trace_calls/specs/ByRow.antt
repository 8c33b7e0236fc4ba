-- The calls by row (ptrace(2)): the row must be stopped and claimed by the caller.
use Rattle.std.specs.Prelude.{◌≡◌, ◌<◌, ◌≤◌, ℕ, true, false, List, Option, None, Result, Ok, Err, length, option_map}
use Rattle.std.specs.Prelude.{slice_set}
use Rattle.trace_options.specs.declared.errno.Errno.{Errno}
use Rattle.trace_options.specs.declared.errno.Errno.TheVariants as errno
use Rattle.trace_options.specs.declared.signal.TheConstants.{LAST_SIGNAL}
use Rattle.trace_record.specs.declared.resume.Resume.{Resume as Restart}
use Rattle.trace_options.specs.declared.wait_flags.WaitFlags.{WaitFlags}
use Rattle.stop_history.specs.declared.id.Id.TheVariants as ids
use Rattle.stop_history.specs.declared.roster.Row.{Row}
use Rattle.stop_history.specs.declared.selection.Selection.{Selection}
use Rattle.stop_history.specs.declared.selection.Selection.TheVariants.{Tracee}
use Rattle.stop_history.specs.declared.wait_request.WaitRequest.{WaitRequest}
use Rattle.stop_history.specs.Roster.{row_at}
use Rattle.stop_history.specs.WaitRequest.{waitid_request}
use Rattle.stop_table.specs.Entry.{Entry, resume_of}
use Rattle.stop_table.specs.Handle.{EndsWith}
use Rattle.stop_table.specs.Tracer.{is_held}
use Rattle.trace_calls.specs.Handle.{CallsHandle, claimed_record}

-- what a wait asks for, asked of these tracees
abbrev pub asked_of : Selection → WaitRequest → WaitRequest
asked_of selection request = record { selection = selection; deaths = request.deaths; keeps = request.keeps }

-- what waitid(2) asks for with these flags, asked of the tracee of a row
abbrev pub row_request : List Row → (row : ℕ) → WaitFlags → Option WaitRequest
row_request rows row flags = option_map (asked_of (Tracee (row_at rows row).tid)) (waitid_request ids.All flags)

-- a row of the roster that the caller has claimed
abbrev pub HasClaimedRow : CallsHandle → ℕ → Type 0
HasClaimedRow a row = (row < length a.view.roster) × (is_held a.view row ≡ true)

-- no row of the roster, or one that the caller has not claimed: ESRCH
abbrev pub HasNotClaimedRow : CallsHandle → ℕ → Type 0
HasNotClaimedRow a row = row < length a.view.roster → is_held a.view row ≡ false

-- the stop that was claimed is resumed, with the record as it is now
abbrev pub IsRowRestart : CallsHandle → CallsHandle → ℕ → Restart → Result (Unit {0}) Errno → Type 0
IsRowRestart a b row how (Ok done) =
    HasClaimedRow a row
    × ((before : List Entry) × EndsWith a.view b.view before
    (resume_of row (claimed_record a row).number how a.view.number (claimed_record a row)))
    × (how.signal ≤ LAST_SIGNAL) × (b.counts ≡ a.counts) × (b.records ≡ slice_set a.records row None)
IsRowRestart a b row how (Err errno.ESRCH) = HasNotClaimedRow a row × (b ≡ a)
IsRowRestart a b row how (Err errno.EIO) = HasClaimedRow a row × (LAST_SIGNAL < how.signal) × (b ≡ a)
IsRowRestart a b row how (Err errno.EINVAL) = ⊥
IsRowRestart a b row how (Err errno.ECHILD) = ⊥
