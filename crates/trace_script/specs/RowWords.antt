-- The ids of threads, thread groups and process groups as words of a line, and the row that four of them write.
use Rattle.std.specs.Prelude.{◌∷◌, [], ℕ, List, Result, Ok, decimal}
use Rattle.stop_history.specs.declared.limits.TheConstants.{LAST_ID}
use Rattle.stop_history.specs.declared.roster.Row.{Row}
use Rattle.text_lines.specs.declared.fault.LineFault.{LineFault}
use Rattle.text_lines.specs.Ranges.{◌>>=◌, number_between}

abbrev pub id_of : List ℕ → Result ℕ LineFault
id_of word = number_between 1 LAST_ID word

-- TID TGID PGID PARENT, where PARENT is 0 for a root
abbrev pub row_of_words : (tid tgid pgid parent : List ℕ) → Result Row LineFault
row_of_words tid tgid pgid parent = do
  t ← id_of tid
  g ← id_of tgid
  p ← id_of pgid
  q ← number_between 0 LAST_ID parent
  Ok (record { tid = t; tgid = g; pgid = p; parent = q })

-- a row as its four words, in decimal
abbrev pub spelled_row : Row → List (List ℕ)
spelled_row row = decimal row.tid ∷ decimal row.tgid ∷ decimal row.pgid ∷ decimal row.parent ∷ []
