-- Rosters: the rows of all tracees. A row has the ids that Linux gives a thread (gettid(2), getpid(2),
-- getpgid(2)) and its parent's tid, or 0 for a root. Each parent comes before its children.
use Rattle.std.specs.Prelude.{◌≡◌, ◌⊎◌, ◌<◌, ◌≤◌, ◌==◌, ◌&&◌, ◌||◌, ◌++◌, ◌∷◌, [], ℕ, Bool, not, nat_le, nat_lt, List}
use Rattle.std.specs.Prelude.{length, take, Option, Some, None, is_some, if◌then◌else◌, find, position, count_by}
use Rattle.std.specs.Prelude.{slice_get, slice_index_or}
use Rattle.stop_history.specs.declared.limits.TheConstants.{LAST_ID, MOST_ROWS}
use Rattle.stop_history.specs.declared.roster.Row.{Row}
use Rattle.stop_history.specs.declared.roster.RosterError.{RosterError}
use Rattle.stop_history.specs.declared.roster.RosterError.TheVariants as fault
use Rattle.stop_history.specs.declared.roster.families.Family.{Family}

-- an id: 1 to the greatest
abbrev pub is_id : ℕ → Bool
is_id number = nat_le 1 number && nat_le number LAST_ID

abbrev pub is_root : Row → Bool
is_root row = row.parent == 0

-- a thread group's leader
abbrev pub is_leader : Row → Bool
is_leader row = row.tgid == row.tid

abbrev pub has_ids : Row → Bool
has_ids row = is_id row.tid && is_id row.tgid && is_id row.pgid && (is_root row || is_id row.parent)

-- the row of a tid
abbrev pub with_tid : List Row → ℕ → Option Row
with_tid rows tid = find (λ q. q.tid == tid) rows

-- a child leads a group of its own or is a thread of its parent's, and keeps its parent's process group
abbrev pub is_child_of : Row → Row → Bool
is_child_of parent row = (is_leader row || row.tgid == parent.tgid) && row.pgid == parent.pgid

-- whether a row's ids go with those of its parent, if it has one; a root leads a group of its own
abbrev pub family_fault : ℕ → Row → Option Row → Option RosterError
family_fault at row None =
    if not (is_root row) then Some (fault.ParentLater at) else if is_leader row then None else Some
    (fault.GroupMismatch at)
family_fault at row (Some parent) = if is_child_of parent row then None else Some (fault.GroupMismatch at)

-- a root has no parent, also where a row has the tid 0
abbrev pub parent_in : List Row → Row → Option Row
parent_in before row = if is_root row then None else with_tid before row.parent

-- the first fault of a row after the rows before it, by the order of the refusals
abbrev pub fault_after : List Row → Row → Option RosterError
fault_after before row =
    if not (has_ids row) then Some (fault.Number (length before))
    else if is_some (with_tid before row.tid) then Some (fault.Twice (length before))
    else family_fault (length before) row (parent_in before row)

abbrev pub or_later : Option RosterError → Option RosterError → Option RosterError
or_later None later = later
or_later (Some found) later = Some found

-- the fault of the first row that has one
abbrev pub first_fault : List Row → List Row → Option RosterError
first_fault before [] = None
first_fault before (row ∷ rows) = or_later (fault_after before row) (first_fault (before ++ row ∷ []) rows)

abbrev pub roster_fault : List Row → Option RosterError
roster_fault rows = if nat_le (length rows) MOST_ROWS then first_fault [] rows else Some fault.TooMany

-- why a row cannot be added to a roster: its own first fault, or else that the roster is full
abbrev pub push_fault : List Row → Row → Option RosterError
push_fault rows row =
    or_later (fault_after rows row) (if nat_lt (length rows) MOST_ROWS then None else Some fault.TooMany)

abbrev pub IsRoster : List Row → Type 0
IsRoster rows = roster_fault rows ≡ None

-- no row
abbrev pub nobody : Row
nobody = record { tid = 0; tgid = 0; pgid = 0; parent = 0 }

abbrev pub row_at : List Row → ℕ → Row
row_at rows i = slice_index_or rows i nobody

-- the place of the row of a tid
abbrev pub row_of : List Row → ℕ → Option ℕ
row_of rows tid = position (λ q. q.tid == tid) rows

-- the place of a row's parent
abbrev pub parent_of : List Row → ℕ → Option ℕ
parent_of rows row = if is_root (row_at rows row) then None else row_of rows (row_at rows row).parent

-- how many rows before it have the same parent
abbrev pub rank_of : List Row → ℕ → ℕ
rank_of rows row = count_by (λ q. q.parent == (row_at rows row).parent) (take row rows)

-- what a row is to the rows before it
abbrev pub family_of : List Row → ℕ → Family
family_of rows row = record { parent = parent_of rows row; rank = rank_of rows row }

-- what each row is to those before it stands at the row's place
abbrev pub HasFamilies : List Row → List Family → Type 0
HasFamilies rows families = (row : ℕ) → row < length rows → slice_get families row ≡ Some (family_of rows row)

-- what a row with a parent has in common with it
pub record IsChild (parent row : Row) : Type 0 where
  pub parent_tid : row.parent ≡ parent.tid
  pub group : (row.tgid ≡ row.tid) ⊎ (row.tgid ≡ parent.tgid)
  pub process_group : row.pgid ≡ parent.pgid

-- what holds of a row of a roster: each parent comes before its children, a root leads a thread group of its own
pub record IsPlaced (rows : List Row) (row : ℕ) : Type 0 where
  pub tid : (1 ≤ (row_at rows row).tid) × ((row_at rows row).tid ≤ LAST_ID)
  pub found : row_of rows (row_at rows row).tid ≡ Some row
  pub root : parent_of rows row ≡ None → ((row_at rows row).parent ≡ 0)
      × ((row_at rows row).tgid ≡ (row_at rows row).tid)
  pub child : (parent : ℕ) → parent_of rows row ≡ Some parent → (parent < row)
      × IsChild (row_at rows parent) (row_at rows row)
