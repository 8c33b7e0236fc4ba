-- What is written, and the tracees that are left, are all tracees.
use Rattle.std.proofs.Common.{◌≡◌, ◌++◌, drop, flat_map, length, string_bytes, zip}
use Rattle.outcome_text.specs.OutcomeText.{tracee_line, tracees_text}
use Rattle.outcome_text.proofs.text.write_tracees.Given as goal

abbrev pub invariant-loop-row : goal.invariant-loop-row
invariant-loop-row g l =
    string_bytes l.out ++ flat_map tracee_line (drop (length l.yielded) (zip l.rows l.states))
    ≡ string_bytes l.fn.out ++ tracees_text l.rows l.states
