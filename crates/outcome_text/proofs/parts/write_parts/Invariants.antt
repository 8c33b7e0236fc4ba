-- What is written, and the parts left, are all parts.
use Rattle.std.proofs.Common.{◌≡◌, ◌++◌, ℕ, List, drop}
use Rattle.std.specs.Io.KnownBytes.{Appends}
use Rattle.outcome_text.specs.CutOff.{text_of_parts}
use Rattle.outcome_text.proofs.parts.write_parts.Given as goal

abbrev pub invariant-loop-part : goal.invariant-loop-part
invariant-loop-part g l =
    (written : List ℕ) × (written ++ text_of_parts (drop l.part-index l.parts) ≡ text_of_parts l.parts)
    × Appends (g.W.Write.contents l.fn.writer) (g.W.Write.contents l.writer) written
