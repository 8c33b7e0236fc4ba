-- A row that may create one more child has room for it.
use Rattle.std.proofs.Common.{◌≡◌, ◌<◌, ◌+◌, ℕ, true, Some, None, List, Option, length}
use Rattle.std.specs.Prelude.{IsSome}
use Rattle.trace_record.specs.Stop.{child_of}
use Rattle.trace_record.specs.declared.stop.Stop.{Stop}
use Rattle.stop_history.specs.declared.limits.TheConstants.{MOST_ROWS}
use Rattle.stop_history.specs.declared.roster.Row.{Row}
use Rattle.stop_history.specs.History.{creates_next, names_next}
use Rattle.stop_history.specs.Roster.{IsRoster}
use Rattle.stop_history.proofs.Children.{next_is_few}

room_for : (rows : List Row) → IsRoster rows → (row births : ℕ) (child : Option ℕ) → row < length rows
    → names_next rows row births child ≡ true → IsSome child → births + 1 < MOST_ROWS
room_for rows roster row births None there next some = cc
room_for rows roster row births (Some tid) there next some = next_is_few rows roster row births there tid next

pub room_for_birth : (rows : List Row) → IsRoster rows → (row births : ℕ) (stop : Stop) → row < length rows
    → creates_next rows row births stop ≡ true → IsSome (child_of stop) → births + 1 < MOST_ROWS
room_for_birth rows roster row births stop there next some =
    room_for rows roster row births (child_of stop) there next some
