-- Words as they are after others: with a space before each of them.
use Rattle.std.specs.Prelude.{◌++◌, ◌∷◌, [], ℕ, List}

abbrev pub spaced : List (List ℕ) → List ℕ
spaced [] = []
spaced (word ∷ words) = 32 ∷ (word ++ spaced words)
