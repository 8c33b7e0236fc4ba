-- The words of a line that are left to be taken.
use Rattle.std.specs.Prelude.{◌==◌, ◌+◌, ℕ, List, Option, Result, Ok, Err, bytes_eq, drop, length, option_map, position}
use Rattle.std.specs.Prelude.{take, if◌then◌else◌}
use Rattle.text_lines.specs.declared.fault.LineFault.{LineFault}
use Rattle.text_lines.specs.declared.fault.LineFault.TheVariants.{UnknownWord}
use Rattle.text_lines.specs.declared.words.Words.{Words}
use Rattle.text_lines.specs.Lines.{words_in}

-- the words that were not taken yet
unfoldable pub words_left : Words → List (List ℕ)
words_left words = take words.most (words_in words.rest.now)

-- words, where they are this many
abbrev pub exactly : (count : ℕ) → List (List ℕ) → Result (List (List ℕ)) LineFault
exactly count words = if length words == count then Ok words else Err UnknownWord

-- the words before the first that is this one, and those after it
abbrev pub split_at : (word : List ℕ) → List (List ℕ) → Option (List (List ℕ) × List (List ℕ))
split_at word words =
    option_map (λ i. (take i words, drop (i + 1) words)) (position (λ w. bytes_eq w word) words)
