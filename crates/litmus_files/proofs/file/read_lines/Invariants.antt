-- What was read so far, and the lines that are left, make what all lines make of nothing.
use Rattle.std.proofs.Common.{◌≡◌, ◌+◌, ◌≤◌, length}
use Rattle.text_lines.specs.Lines.{lines_of}
use Rattle.litmus_files.specs.LitmusDraft.{litmus_reading_of}
use Rattle.litmus_files.specs.LitmusFile.{IsLitmusReading, litmus_lines_after, no_lines}
use Rattle.litmus_files.proofs.file.read_lines.Given as goal

abbrev pub invariant-loop-rest : goal.invariant-loop-rest
invariant-loop-rest g l = record {
  room : l.number + length l.rest ≤ length l.text + 1;
  counted : l.number + length (lines_of l.rest) ≡ length (lines_of l.text) + 1;
  first : 1 ≤ l.number;
  range : IsLitmusReading (litmus_reading_of l.draft);
  read : litmus_lines_after l.number (litmus_reading_of l.draft) (lines_of l.rest)
      ≡ litmus_lines_after 1 no_lines (lines_of l.text);
}

abbrev pub decreases-loop-rest : goal.decreases-loop-rest
decreases-loop-rest g l = length l.rest
