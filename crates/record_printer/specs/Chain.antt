-- The early stops that follow one another from a number on.
use Rattle.std.specs.Prelude.{◌≡◌, ◌+◌, ◌-◌, ◌<◌, ◌≤◌, ℕ, None, IsSome, List, [], ◌∷◌}
use Rattle.record_printer.specs.KeptFold.{behind_len, note_len}
use Rattle.record_printer.specs.Note.{Note, Stops}
use Rattle.record_printer.specs.RowAnswers.{notes_from}

-- the room for notes
abbrev pub notes_len : List Note → ℕ
notes_len [] = 0
notes_len (note ∷ notes) = note_len note + notes_len notes

abbrev pub notes_behind : List Note → ℕ
notes_behind [] = 0
notes_behind (note ∷ notes) = behind_len note + notes_behind notes

-- the stops from `first` on, before `next`, which is the first that is not there
pub record IsChain (stops : Stops) (first next : ℕ) : Type 0 where
  pub forward : first ≤ next
  pub each : (n : ℕ) → first ≤ n → n < next → IsSome (stops n)
  pub over : stops next ≡ None

-- their notes
abbrev pub notes_until : Stops → (first next : ℕ) → List Note
notes_until stops first next = notes_from stops first (next - first)
