-- What a folder answers for the pieces that came, in whatever order: which piece it refuses, what is lost, and the
-- text.
use Rattle.std.specs.Prelude.{◌||◌, ℕ, Bool, Option, Some, None, is_some, option_map, length, List, [], ◌∷◌}
use Rattle.std.specs.Prelude.{if◌then◌else◌}
use Rattle.std.specs.List.{flat_map, list_any, range_with_len}
use Rattle.record_printer.specs.Came.{ending_of, is_of, last_of, names, stop_of}
use Rattle.record_printer.specs.Piece.{Piece, Stopped, Died}
use Rattle.record_printer.specs.RowAnswers.{death_fault, missing_in, stop_fault, text_in}
use Rattle.record_printer.specs.declared.fold.error.FoldError.{FoldError}
use Rattle.record_printer.specs.declared.fold.error.FoldError.TheVariants as error
use Rattle.stop_history.specs.Roster.{is_root, row_at, row_of}
use Rattle.stop_history.specs.declared.roster.Row.{Row}

-- a thread id without a row is a stranger's
abbrev pub of_row : Option ℕ → Option FoldError → Option FoldError
of_row None fault = Some error.Stranger
of_row (Some row) fault = fault

-- why a piece is refused where there is memory
abbrev pub refusal : List Row → List Piece → Piece → Option FoldError
refusal rows pieces (Stopped tid number note) =
    of_row (row_of rows tid) (stop_fault (ending_of tid pieces) (is_some (stop_of tid pieces number)) number)
refusal rows pieces (Died tid number death) =
    of_row (row_of rows tid) (death_fault (ending_of tid pieces) (last_of tid pieces) number)

-- a row that must be whole: a root, one that the creation of a child names, one of which a piece has come
abbrev pub is_expected : Row → List Piece → Bool
is_expected row pieces = is_root row || (list_any (names row.tid) pieces || list_any (is_of row.tid) pieces)

-- the least number that is missing in a row
abbrev pub missing_of : ℕ → List Piece → Option ℕ
missing_of tid pieces = missing_in (stop_of tid pieces) (ending_of tid pieces) (last_of tid pieces)

abbrev pub lost_if : Bool → ℕ → Option ℕ → Option FoldError
lost_if expected row number = if expected then option_map (λ n. error.Lost row n) number else None

abbrev pub lost_at : List Row → List Piece → ℕ → Option FoldError
lost_at rows pieces row =
    lost_if (is_expected (row_at rows row) pieces) row (missing_of (row_at rows row).tid pieces)

abbrev pub or_next : Option FoldError → Option FoldError → Option FoldError
or_next None next = next
or_next (Some fault) next = Some fault

-- the fault of the first row that has one
abbrev pub first_row_fault : (ℕ → Option FoldError) → List ℕ → Option FoldError
first_row_fault fault [] = None
first_row_fault fault (row ∷ rows) = or_next (fault row) (first_row_fault fault rows)

-- what is lost: of the first row in the roster's order that must be whole and is not
abbrev pub lost : List Row → List Piece → Option FoldError
lost rows pieces = first_row_fault (lost_at rows pieces) (range_with_len 0 (length rows))

-- the text: the lines of the rows in the roster's order
abbrev pub row_text : List Piece → Row → List ℕ
row_text pieces row = text_in row.tid (stop_of row.tid pieces) (ending_of row.tid pieces)

abbrev pub pieces_text : List Row → List Piece → List ℕ
pieces_text rows pieces = flat_map (row_text pieces) rows
