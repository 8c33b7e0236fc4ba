-- The words so far, and those of the tracees that are left, are all words.
use Rattle.std.proofs.Common.{◌≡◌, ◌++◌, drop, length, map, string_bytes, zip}
use Rattle.outcome_text.specs.OutcomeEnds.{last_state}
use Rattle.outcome_text.proofs.ends.each_state.Given as goal

abbrev pub invariant-loop-row : goal.invariant-loop-row
invariant-loop-row g l =
    map string_bytes l.words.items ++ map last_state (drop (length l.yielded) (zip l.rows l.states))
    ≡ map last_state (zip l.rows l.states)
