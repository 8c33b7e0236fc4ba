-- The file is read line by line, up to its first fault.
use Rattle.std.proofs.Common.{◌∙◌, List, ℕ, ap, arith, length, sym}
use Rattle.text_lines.specs.Lines.{lines_of}
use Rattle.trace_script.specs.Reading.{read_after}
use Rattle.trace_script.proofs.LinesRead.{ends, ends_here, goes_on}
use Rattle.trace_script.proofs.reading.read_lines.Goals as goal

pub returns-in-Err-clause-err : goal.returns-in-Err-clause-err
returns-in-Err-clause-err g c =
    let D = g.D.TakesLines in
    let counted = ap (λ (ls : List (List ℕ)). length ls) c.cut_line.ensures.lines in
    rw (← c.loop-rest.invariant.read, c.cut_line.ensures.lines) (
    ends_here D.line_read c.args.text.now c.loop-rest.number (D.content c.loop-rest.so_far)
    (D.content c.take_line.new.self) c.cut_line.result.0.now (lines_of c.cut_line.result.1.now) c.in-Err.cause
    c.loop-rest.invariant.first (omega (arith, counted, c.loop-rest.invariant.counted)) c.in-Err.ensures.line)

pub loop-rest-preserved : goal.loop-rest-preserved
loop-rest-preserved g c =
    let D = g.D.TakesLines in
    let so_far = D.content c.loop-rest.so_far in
    let counted = ap (λ (ls : List (List ℕ)). length ls) c.cut_line.ensures.lines in
    record {
      room = omega (arith, c.cut_line.ensures.shorter, c.loop-rest.invariant.room);
      counted = omega (arith, counted, c.loop-rest.invariant.counted);
      first = omega arith;
      sound = c.in_default.ensures.sound;
      read = sym
          (goes_on D.line_read c.loop-rest.number so_far (D.content c.take_line.new.self) c.cut_line.result.0.now
          (lines_of c.cut_line.result.1.now) c.in_default.ensures.line)
          ∙ ap (read_after D.line_read c.loop-rest.number so_far) (sym c.cut_line.ensures.lines)
          ∙ c.loop-rest.invariant.read;
    }

pub returns-clause-ok : goal.returns-clause-ok
returns-clause-ok g c =
    sym c.loop-rest.invariant.read
    ∙ ends g.D.TakesLines.line_read c.loop-rest.number (g.D.TakesLines.content c.loop-rest.so_far) c.loop-rest.rest.now
    c.loop-rest-test.ensures
