-- The look-up so far: no name before this row is the word.
use Rattle.std.proofs.Common.{◌≡◌, drop, map}
use Rattle.text_lines.specs.Keywords.{value_beside}
use Rattle.text_lines.proofs.keywords.keyword.Given as goal

-- none of the names so far is the word
abbrev pub invariant-loop-name : goal.invariant-loop-name
invariant-loop-name g l =
    value_beside (map (λ row. (row.0.now, row.1)) (drop l.name-index l.table)) l.word
    ≡ value_beside (map (λ row. (row.0.now, row.1)) l.table) l.word
