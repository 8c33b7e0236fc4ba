-- What a folder answers of one row: by its stops, its death if it has come, and the greatest number of its stops.
use Rattle.std.specs.Prelude.{◌+◌, ◌==◌, ◌||◌, ℕ, Bool, false, not, Option, Some, None, is_some, List, [], nat_lt}
use Rattle.std.specs.Prelude.{find, if◌then◌else◌}
use Rattle.std.specs.List.{flat_map, range_with_len}
use Rattle.std.specs.Option.{option_to_list}
use Rattle.record_printer.specs.DeathLine.{death_text}
use Rattle.record_printer.specs.Note.{Note, Stops}
use Rattle.record_printer.specs.PrintedRow.{row_lines}
use Rattle.record_printer.specs.declared.fold.ending.Ending.{Ending}
use Rattle.record_printer.specs.declared.fold.error.FoldError.{FoldError}
use Rattle.record_printer.specs.declared.fold.error.FoldError.TheVariants as error

-- the number is above that of the death
abbrev pub is_past : Option Ending → ℕ → Bool
is_past None number = false
is_past (Some ending) number = nat_lt ending.number number

-- why a stop is refused: it has the number 0 or one above that of the death, or there is one of its number
abbrev pub stop_fault : Option Ending → Bool → ℕ → Option FoldError
stop_fault ending held number =
    if number == 0 || is_past ending number then Some error.Stranger else if held then Some error.Twice else None

-- why a death is refused: a stop has a greater number, or there is a death
abbrev pub death_fault : Option Ending → (last number : ℕ) → Option FoldError
death_fault ending last number =
    if nat_lt number last then Some error.Stranger else if is_some ending then Some error.Twice else None

-- the last number that must have a stop: that of the death, or else one more than the greatest of a stop
abbrev pub due : Option Ending → ℕ → ℕ
due None last = last + 1
due (Some ending) last = ending.number

-- the least number that has no stop and must have one
abbrev pub missing_in : Stops → Option Ending → ℕ → Option ℕ
missing_in stops ending last = find (λ n. not (is_some (stops n))) (range_with_len 1 (due ending last))

-- the notes of `count` stops, the first of number `first`, in the order of their numbers
abbrev pub notes_from : Stops → (first count : ℕ) → List Note
notes_from stops first count = flat_map (λ n. option_to_list (stops n)) (range_with_len first count)

-- the lines of a row that has died; one that lives has no text
abbrev pub text_in : ℕ → Stops → Option Ending → List ℕ
text_in tid stops None = []
text_in tid stops (Some ending) = row_lines (notes_from stops 1 ending.number) (Some (death_text tid ending.death))
