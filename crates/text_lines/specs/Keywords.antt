-- Words that have a meaning, in tables of names and values.
use Rattle.std.specs.Prelude.{◌∷◌, [], ℕ, List, Result, Ok, Err, bytes_eq, if◌then◌else◌}
use Rattle.text_lines.specs.declared.fault.LineFault.{LineFault}
use Rattle.text_lines.specs.declared.fault.LineFault.TheVariants.{UnknownWord}

-- the value beside the first name that is the word
abbrev pub value_beside : {T : Type 0} → List (List ℕ × T) → List ℕ → Result T LineFault
value_beside [] word = Err UnknownWord
value_beside (row ∷ rows) word = if bytes_eq word row.0 then Ok row.1 else value_beside rows word
