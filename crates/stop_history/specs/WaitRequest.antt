-- What a wait asks for, by its arguments (waitid(2), waitpid(2)). None is EINVAL.
use Rattle.std.specs.Prelude.{◌==◌, ◌||◌, ℕ, ℤ, Bool, true, false, not, List, Option, Some, None, if◌then◌else◌}
use Rattle.std.specs.Int.RustNames.{bit_and, bit_or}
use Rattle.stop_history.specs.declared.roster.Row.{Row}
use Rattle.stop_history.specs.Roster.{row_at}
use Rattle.trace_options.specs.WaitFlags.{wait_flag_bits}
use Rattle.trace_options.specs.declared.wait_flags.WaitFlags.{WaitFlags}
use Rattle.trace_options.specs.declared.wait_flags.TheConstants.WaitFlags.{WALL, WCONTINUED, WEXITED, WNOHANG}
use Rattle.trace_options.specs.declared.wait_flags.TheConstants.WaitFlags.{WNOWAIT, WSTOPPED, WUNTRACED}
use Rattle.stop_history.specs.declared.id.Id.{Id}
use Rattle.stop_history.specs.declared.wait_request.WaitRequest.{WaitRequest}
use Rattle.stop_history.specs.declared.selection.Selection.{Selection}
use Rattle.stop_history.specs.declared.selection.Selection.TheVariants.{All, Tracee}
use Rattle.stop_history.specs.Selection.{selection_of_id, selection_of_pid}

abbrev pub has : WaitFlags → WaitFlags → Bool
has flags flag = bit_and (wait_flag_bits flags) (wait_flag_bits flag) == wait_flag_bits flag

abbrev pub request_for : Option Selection → (deaths keeps : Bool) → Option WaitRequest
request_for None deaths keeps = None
request_for (Some selection) deaths keeps =
    Some (record { selection = selection; deaths = deaths; keeps = keeps })

-- of these tracees, a stop or a death, which is claimed
abbrev pub claiming : Selection → WaitRequest
claiming selection = record { selection = selection; deaths = true; keeps = false }

-- of any tracee
abbrev pub anyone : WaitRequest
anyone = claiming All

-- of the tracee of a row
abbrev pub one_row : List Row → ℕ → WaitRequest
one_row rows row = claiming (Tracee (row_at rows row).tid)

-- waitid waits for deaths with WEXITED, and takes one of WEXITED and WSTOPPED at least, and no WCONTINUED
abbrev pub waitid_request : Id → WaitFlags → Option WaitRequest
waitid_request id flags =
    if not (has flags WEXITED || has flags WSTOPPED) || has flags WCONTINUED then None
    else request_for (selection_of_id id) (has flags WEXITED) (has flags WNOWAIT)

-- the flags that waitpid takes
abbrev pub waitpid_flags : ℕ
waitpid_flags = bit_or (bit_or (wait_flag_bits WNOHANG) (wait_flag_bits WUNTRACED)) (wait_flag_bits WALL)

-- waitpid always waits for deaths, and takes no other flags
abbrev pub waitpid_request : ℤ → WaitFlags → Option WaitRequest
waitpid_request pid flags =
    if bit_and waitpid_flags (wait_flag_bits flags) == wait_flag_bits flags
    then request_for (selection_of_pid pid) true false
    else None
