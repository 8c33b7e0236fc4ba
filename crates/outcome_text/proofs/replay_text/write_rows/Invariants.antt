-- The text so far and the lines of the rows left are those of all rows.
use Rattle.std.proofs.Common.{◌≡◌, ◌++◌, drop, string_bytes}
use Rattle.replay_files.specs.Spelling.{rows_text}
use Rattle.outcome_text.proofs.replay_text.write_rows.Given as goal

abbrev pub invariant-loop-row : goal.invariant-loop-row
invariant-loop-row g l =
    string_bytes l.out ++ rows_text (drop l.row-index l.rows) ≡ string_bytes l.fn.out ++ rows_text l.rows
