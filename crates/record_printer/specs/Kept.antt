-- What a folder keeps of a row: the fold of its stops up to a number, and the notes of stops that came before their
-- turn.
use Rattle.std.specs.Prelude.{◌≡◌, ◌==◌, ◌||◌, ◌+◌, ◌<◌, ◌≤◌, ℕ, Bool, false, Option, Some, None, IsSome, is_some}
use Rattle.std.specs.Prelude.{List, [], max, nat_lt, if◌then◌else◌}
use Rattle.std.specs.BTreeMap.{is_at}
use Rattle.std.specs.Map.{lookup}
use Rattle.std.specs.Ordering.{nat_cmp}
use Rattle.record_printer.specs.Note.{Note, Stops}
use Rattle.record_printer.specs.RowAnswers.{notes_from}
use Rattle.record_printer.specs.RowFold.{Fold, empty_fold, fold_after_all}
use Rattle.record_printer.specs.declared.fold.ending.Ending.{Ending}

-- whether a creation names the row, its death, the greatest number of its stops, the number up to which its stops are
-- folded, their fold, and the notes of later stops by their numbers
pub record Kept : Type 0 where
  pub named : Bool
  pub ending : Option Ending
  pub last : ℕ
  pub done : ℕ
  pub fold : Fold
  pub early : List (ℕ × Note)

abbrev pub empty_row : Kept
empty_row = record { named = false; ending = None; last = 0; done = 0; fold = empty_fold; early = [] }

-- a stop or the death of the row has come
abbrev pub has_any : Kept → Bool
has_any kept = nat_lt 0 kept.last || is_some kept.ending

-- the note of a number
abbrev pub note_in : List (ℕ × Note) → ℕ → Option Note
note_in early number = lookup (is_at (nat_cmp number)) early

-- these are the stops of the row: those up to a number are folded, the next one has not come, the others wait
pub record KeepsStops (kept : Kept) (stops : Stops) : Type 0 where
  pub folded : kept.fold ≡ fold_after_all empty_fold (notes_from stops 1 kept.done)
  pub each : (n : ℕ) → 1 ≤ n → n ≤ kept.done → IsSome (stops n)
  pub next : stops (kept.done + 1) ≡ None
  pub waiting : (n : ℕ) → kept.done < n → note_in kept.early n ≡ stops n

-- the stops and one more
abbrev pub stops_with : Stops → ℕ → Note → Stops
stops_with stops number note n = if number == n then Some note else stops n

-- a row after one more stop
pub record AddsStop (old new : Kept) (number : ℕ) (note : Note) : Type 0 where
  pub named : new.named ≡ old.named
  pub ending : new.ending ≡ old.ending
  pub last : new.last ≡ max old.last number
  pub follows : (stops : Stops) → KeepsStops old stops → KeepsStops new (stops_with stops number note)
