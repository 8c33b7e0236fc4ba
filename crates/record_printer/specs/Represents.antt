-- What a folder represents: a list of pieces, the newest first.
use Rattle.std.specs.Prelude.{◌≡◌, ◌==◌, ◌<◌, ◌||◌, ℕ, Bool, None, List, [], ◌∷◌, length, slice_index_or, if◌then◌else◌}
use Rattle.std.specs.List.{list_any}
use Rattle.record_printer.specs.Came.{child_noted, ending_of, is_child, is_of, last_of, names, stop_of}
use Rattle.record_printer.specs.FolderAnswers.{refusal}
use Rattle.record_printer.specs.Kept.{AddsStop, KeepsStops, Kept, empty_row, has_any}
use Rattle.record_printer.specs.Note.{Note}
use Rattle.record_printer.specs.Piece.{Piece}
use Rattle.stop_history.specs.Roster.{row_at}
use Rattle.stop_history.specs.declared.roster.Row.{Row}

-- a folder: the roster, and what is kept of each of its rows
pub record Folded : Type 0 where
  pub rows : List Row
  pub kept : List Kept

abbrev pub kept_at : List Kept → ℕ → Kept
kept_at kept row = slice_index_or kept row empty_row

-- the pieces were not refused, each after those before it
abbrev pub AreTaken : List Row → List Piece → Type 0
AreTaken rows [] = Unit {0}
AreTaken rows (piece ∷ pieces) = (refusal rows pieces piece ≡ None) × AreTaken rows pieces

-- what is kept of a row is what the pieces say of it
pub record KeepsRow (kept : Kept) (tid : ℕ) (pieces : List Piece) : Type 0 where
  pub named : kept.named ≡ list_any (names tid) pieces
  pub ending : kept.ending ≡ ending_of tid pieces
  pub last : kept.last ≡ last_of tid pieces
  pub any : has_any kept ≡ list_any (is_of tid) pieces
  pub stops : KeepsStops kept (stop_of tid pieces)

-- a row that the creation of a child names, if it does
abbrev pub with_name : Bool → Kept → Kept
with_name named kept = record kept { named = named || kept.named }

-- the rows after one more stop of one of them
pub record AddsStopAt (rows : List Row) (old new : List Kept) (row number : ℕ) (note : Note) : Type 0 where
  pub after : Kept
  pub added : AddsStop (kept_at old row) after number note
  pub each : (r : ℕ) → r < length rows → kept_at new r
      ≡ with_name (is_child (row_at rows r).tid (child_noted note)) (if row == r then after else kept_at old r)

-- a folder represents pieces
pub record Represents (folder : Folded) (pieces : List Piece) : Type 0 where
  pub taken : AreTaken folder.rows pieces
  pub each : (row : ℕ) → row < length folder.rows
      → KeepsRow (kept_at folder.kept row) (row_at folder.rows row).tid pieces
