-- Which tracees a wait speaks of (waitid(2), P_ALL, P_PID, P_PGID; waitpid(2), "The value of pid can be").
use Rattle.std.specs.Prelude.{◌≡◌, ◌==◌, ◌+◌, ◌<◌, ℕ, ℤ, pos, negsuc, Bool, true, false, List, length}
use Rattle.std.specs.Prelude.{Option, Some, None, if◌then◌else◌}
use Rattle.stop_history.specs.declared.roster.Row.{Row}
use Rattle.stop_history.specs.Roster.{row_at}
use Rattle.stop_history.specs.declared.id.Id.{Id}
use Rattle.stop_history.specs.declared.id.Id.TheVariants as ids
use Rattle.stop_history.specs.declared.selection.Selection.{Selection}
use Rattle.stop_history.specs.declared.selection.Selection.TheVariants.{All, Tracee, Group}

abbrev pub is_selected : Selection → Row → Bool
is_selected All row = true
is_selected (Tracee tid) row = row.tid == tid
is_selected (Group pgid) row = row.pgid == pgid

-- a row of the roster that the wait speaks of
abbrev pub IsSelected : List Row → Selection → ℕ → Type 0
IsSelected rows selection row = (row < length rows) × (is_selected selection (row_at rows row) ≡ true)

-- a wait that speaks of this row alone
pub record IsOnly (rows : List Row) (selection : Selection) (row : ℕ) : Type 0 where
  pub selected : IsSelected rows selection row
  pub alone : (other : ℕ) → IsSelected rows selection other → other ≡ row

-- with each tracee it has that tracee's parent: not so for one tracee alone
abbrev pub has_parents : Selection → Bool
has_parents All = true
has_parents (Tracee tid) = false
has_parents (Group pgid) = true

-- ---- what the arguments select; None is EINVAL

abbrev pub positive : ℤ → Option ℕ
positive (pos n) = if n == 0 then None else Some n
positive (negsuc n) = None

abbrev pub the_tracee : Option ℕ → Option Selection
the_tracee None = None
the_tracee (Some tid) = Some (Tracee tid)

abbrev pub the_group : Option ℕ → Option Selection
the_group None = None
the_group (Some pgid) = Some (Group pgid)

-- waitid takes ids above 0
abbrev pub selection_of_id : Id → Option Selection
selection_of_id ids.All = Some All
selection_of_id (ids.Pid pid) = the_tracee (positive pid)
selection_of_id (ids.PGid pgid) = the_group (positive pgid)

-- waitpid: above 0 that tracee, -1 any, below it the process group of the absolute value (negsuc n is -(n + 1)); not 0,
-- and not the least number, whose absolute value is none
abbrev pub selection_of_pid : ℤ → Option Selection
selection_of_pid (pos n) = if n == 0 then None else Some (Tracee n)
selection_of_pid (negsuc n) = if n == 0 then Some All else if n == 2147483647 then None else Some (Group (n + 1))
