-- Legal histories: no event comes in a state that does not allow it (ptrace(2), "Attaching and detaching",
-- "Restarting"; waitid(2)). And what a history says of births and of rows that have come to rest.
use Rattle.std.specs.Prelude.{◌≡◌, ◌≢◌, ◌==◌, ◌&&◌, ◌+◌, ◌≤◌, ◌∷◌, ◌++◌, [], ℕ, Bool, true, false, not, List, length}
use Rattle.std.specs.Prelude.{Option, Some, None, is_some, if◌then◌else◌, find}
use Rattle.std.specs.List.{range_with_len}
use Rattle.trace_record.specs.declared.stop.Stop.{Stop}
use Rattle.trace_record.specs.Stop.{child_of}
use Rattle.stop_history.specs.declared.limits.TheConstants.{LAST_NUMBER}
use Rattle.stop_history.specs.declared.roster.Row.{Row}
use Rattle.stop_history.specs.declared.state.State.{State}
use Rattle.stop_history.specs.declared.state.State.TheVariants as state
use Rattle.stop_history.specs.Event as event
use Rattle.stop_history.specs.Event.{Event, History, events_of, subject}
use Rattle.stop_history.specs.Roster.{row_at, row_of, rank_of, parent_of, is_leader}
use Rattle.stop_history.specs.State.{state_after, last_number, is_born, is_alive, is_ended, is_waitable}

-- of one row's events: how many children its forks and clones created
abbrev pub births_in : List Event → ℕ
births_in [] = 0
births_in (event.Publish row number stop ∷ es) = if is_some (child_of stop) then births_in es + 1 else births_in es
births_in (e ∷ es) = births_in es

abbrev pub births_after : History → ℕ → ℕ
births_after h row = births_in (events_of row h)

-- whether the row of a tid, if there is one, is the child that a parent of this many children creates next
abbrev pub is_next_child : List Row → (parent births : ℕ) → Option ℕ → Bool
is_next_child rows parent births None = false
is_next_child rows parent births (Some row) =
    (row_at rows row).parent == (row_at rows parent).tid && rank_of rows row == births

-- whether a stop creates no child, or its parent's next one
abbrev pub names_next : List Row → (parent births : ℕ) → Option ℕ → Bool
names_next rows parent births None = true
names_next rows parent births (Some tid) = is_next_child rows parent births (row_of rows tid)

abbrev pub creates_next : List Row → (parent births : ℕ) → Stop → Bool
creates_next rows parent births stop = names_next rows parent births (child_of stop)

-- an alive row of the thread group of `row`, other than it
abbrev pub holds_back : List Row → (ℕ → State) → (row other : ℕ) → Bool
holds_back rows states row other =
    not (other == row) && ((row_at rows other).tgid == (row_at rows row).tgid && is_alive (states other))

-- the first alive row of a leader's thread group beside the leader, which cannot exit before it (ptrace(2), "Death
-- under ptrace")
abbrev pub holding_back : List Row → (ℕ → State) → ℕ → Option ℕ
holding_back rows states row =
    if is_leader (row_at rows row) then find (holds_back rows states row) (range_with_len 0 (length rows)) else None

-- an event fits the state that a history leaves
abbrev pub Fits : List Row → History → Event → Type 0
Fits rows h (event.Publish row number stop) =
    (state_after rows h row ≡ state.Running) × (number ≡ last_number h row + 1) × (number ≤ LAST_NUMBER)
    × (creates_next rows row (births_after h row) stop ≡ true)
Fits rows h (event.Claim row number tracer) =
    (is_waitable (state_after rows h row) ≡ true) × (number ≡ last_number h row)
Fits rows h (event.Resume row number how tracer) = state_after rows h row ≡ state.Claimed number tracer
Fits rows h (event.Exit row death) =
    (state_after rows h row ≡ state.Running) × (holding_back rows (state_after rows h) row ≡ None)

abbrev pub IsLegal : List Row → History → Type 0
IsLegal rows [] = Unit {0}
IsLegal rows (e ∷ h) = Fits rows h e × IsLegal rows h

-- a row that can never act again, whatever else happens, as long as the row `beside` makes no event (None: in any
-- case): it has ended, or it is unborn and its parent is `beside` or cannot act either
pub data IsSettled (rows : List Row) (beside : Option ℕ) (h : History) : (row : ℕ) → Type 0 where
  ended : (row : ℕ) → is_ended (state_after rows h row) ≡ true → IsSettled rows beside h row
  unborn_beside : (row parent : ℕ) → state_after rows h row ≡ state.Unborn → parent_of rows row ≡ Some parent
      → beside ≡ Some parent → IsSettled rows beside h row
  unborn_below : (row parent : ℕ) → state_after rows h row ≡ state.Unborn → parent_of rows row ≡ Some parent
      → IsSettled rows beside h parent → IsSettled rows beside h row

abbrev pub is_of_parent : ℕ → Option ℕ → Bool
is_of_parent parent None = false
is_of_parent parent (Some p) = p == parent

-- of an event history, newest first: no event is one of the row `beside`
abbrev pub IsSilent : Option ℕ → History → Type 0
IsSilent beside [] = Unit {0}
IsSilent beside (e ∷ h) = (beside ≢ Some (subject e)) × IsSilent beside h

-- whether a row is a born child of another
abbrev pub is_born_child : List Row → History → (parent row : ℕ) → Bool
is_born_child rows h parent row = is_of_parent parent (parent_of rows row) && is_born rows h row

-- of one row's events: whether the newest is its death
abbrev pub is_death_newest : List Event → Bool
is_death_newest (event.Exit row death ∷ es) = true
is_death_newest es = false

-- of one row's events: how many claims claim the stop of this number; a claim right after a death reaps the death
abbrev pub stop_claims_in : ℕ → List Event → ℕ
stop_claims_in number [] = 0
stop_claims_in number (event.Claim row n tracer ∷ es) =
    (if n == number && not (is_death_newest es) then 1 else 0) + stop_claims_in number es
stop_claims_in number (e ∷ es) = stop_claims_in number es

-- of a history that has gone on: the row was claimed, and nothing had happened to it before that
pub record WasClaimed (row : ℕ) (more h : History) : Type 0 where
  pub later : History
  pub sooner : History
  pub number : ℕ
  pub tracer : ℕ
  pub is : more ≡ later ++ (event.Claim row number tracer ∷ sooner)
  pub unchanged : events_of row (sooner ++ h) ≡ events_of row h
