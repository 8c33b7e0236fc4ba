-- What was read so far, and the lines that are left, make what all lines make of nothing.
use Rattle.std.proofs.Common.{◌≡◌, ◌+◌, ◌≤◌, length}
use Rattle.text_lines.specs.Lines.{lines_of}
use Rattle.trace_script.specs.Reading.{read_after}
use Rattle.trace_script.proofs.reading.read_lines.Given as goal

abbrev pub invariant-loop-rest : goal.invariant-loop-rest
invariant-loop-rest g l = record {
  room : l.number + length l.rest ≤ length l.text + 1;
  counted : l.number + length (lines_of l.rest) ≡ length (lines_of l.text) + 1;
  first : 1 ≤ l.number;
  sound : g.D.TakesLines.IsSound l.so_far;
  read : read_after g.D.TakesLines.line_read l.number (g.D.TakesLines.content l.so_far) (lines_of l.rest)
      ≡ read_after g.D.TakesLines.line_read 1 (g.D.TakesLines.content l.fn.nothing) (lines_of l.text);
}

abbrev pub decreases-loop-rest : goal.decreases-loop-rest
decreases-loop-rest g l = length l.rest
