-- The lines of a text and the words of a line, as lists of bytes. A line ends with a line feed, which the last one
-- may lack; words are separated by spaces.
use Rattle.std.specs.Prelude.{◌==◌, ◌++◌, ◌∷◌, [], ℕ, Bool, max, nat_lt, List, length, filter, slice_index_or}
use Rattle.std.specs.List.{join_with_byte, slice_split}

abbrev pub is_feed : ℕ → Bool
is_feed b = b == 10

-- a part, unless it is empty
abbrev pub filled : List ℕ → List (List ℕ)
filled [] = []
filled (b ∷ bs) = (b ∷ bs) ∷ []

-- parts without an empty one at the end
abbrev pub without_empty_end : List (List ℕ) → List (List ℕ)
without_empty_end [] = []
without_empty_end (part ∷ []) = filled part
without_empty_end (part ∷ next ∷ parts) = part ∷ without_empty_end (next ∷ parts)

-- what is between line feeds, without an empty end
abbrev pub lines_of : List ℕ → List (List ℕ)
lines_of text = without_empty_end (slice_split (λ b. b == 10) text)

-- the number of the last line, from 1; 1 of an empty text
abbrev pub last_line : List ℕ → ℕ
last_line text = max 1 (length (lines_of text))

abbrev pub has_letters : List ℕ → Bool
has_letters word = nat_lt 0 (length word)

-- what is between spaces and has letters
abbrev pub words_in : List ℕ → List (List ℕ)
words_in line = filter has_letters (slice_split (λ b. b == 32) line)

-- a word by its place, from 0; no letters where there is none
abbrev pub nth_word : List (List ℕ) → ℕ → List ℕ
nth_word words i = slice_index_or words i []

-- words as a line: one space between them, and a line feed at the end
abbrev pub line_text : List (List ℕ) → List ℕ
line_text words = join_with_byte 32 words ++ 10 ∷ []
