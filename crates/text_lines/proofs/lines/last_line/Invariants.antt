-- The lines that are left are counted.
use Rattle.std.proofs.Common.{◌≡◌, ◌+◌, ◌≤◌, length}
use Rattle.text_lines.specs.Lines.{lines_of}
use Rattle.text_lines.proofs.lines.last_line.Given as goal

-- the lines so far and those left are all lines
abbrev pub invariant-loop-rest : goal.invariant-loop-rest
invariant-loop-rest l = record {
  room : l.count + length l.rest ≤ length l.text;
  counted : l.count + length (lines_of l.rest) ≡ length (lines_of l.text);
}

abbrev pub decreases-loop-rest : goal.decreases-loop-rest
decreases-loop-rest l = length l.rest
