-- What is written, and the words that are left, are all words.
use Rattle.std.proofs.Common.{◌≡◌, ◌++◌, drop, map, string_bytes}
use Rattle.outcome_text.specs.OutcomeEnds.{more_listed}
use Rattle.outcome_text.proofs.ends.write_more.Given as goal

abbrev pub invariant-loop-word : goal.invariant-loop-word
invariant-loop-word g l =
    string_bytes l.out ++ more_listed (map string_bytes (drop l.word-index l.words))
    ≡ string_bytes l.fn.out ++ more_listed (map string_bytes l.words)
