-- A text of parts, and one of which only a beginning is written (write(2)).
use Rattle.std.specs.Prelude.{◌≡◌, ◌<◌, ◌++◌, ℕ, List, Option, length, take}
use Rattle.std.specs.Borrow.{Bor}
use Rattle.std.specs.Io.KnownBytes.{Appends}
use Rattle.std.specs.List.{flat_map}

-- the text that parts are
abbrev pub text_of_parts : List (Bor (List ℕ)) → List ℕ
text_of_parts parts = flat_map (λ part. part.now) parts

-- a write failed: a beginning of a text was written, and not all of it
abbrev pub IsCutOff : (before after : Option (List ℕ)) → (text : List ℕ) → Type 0
IsCutOff before after text = (n : ℕ) × (n < length text) × Appends before after (take n text)

-- a beginning of a text was written, or all of it
abbrev pub IsBegun : (before after : Option (List ℕ)) → (text : List ℕ) → Type 0
IsBegun before after text = (n : ℕ) × Appends before after (take n text)

-- a text was added to one that is collected, and of both together a beginning was written, and the rest is collected
abbrev pub IsCollected : (before after : Option (List ℕ)) → (old text new : List ℕ) → Type 0
IsCollected before after old text new =
    (written : List ℕ) × Appends before after written × (written ++ new ≡ old ++ text)
