-- The file is read line by line, up to its first fault.
use Rattle.std.proofs.Common.{◌∙◌, List, ℕ, ap, arith, length, sym}
use Rattle.text_lines.specs.Lines.{lines_of}
use Rattle.trace_script.proofs.LinesRead.{ends, ends_here, goes_on}
use Rattle.litmus_files.specs.LitmusDraft.{litmus_reading_of}
use Rattle.litmus_files.specs.LitmusFile.{litmus_line_read, litmus_lines_after}
use Rattle.litmus_files.proofs.file.read_lines.Goals as goal

pub returns-in-Err-clause-err : goal.returns-in-Err-clause-err
returns-in-Err-clause-err g c =
    let so_far = litmus_reading_of c.loop-rest.draft in
    let new = litmus_reading_of c.take_line.new.draft in
    let counted = ap (λ (ls : List (List ℕ)). length ls) c.cut_line.ensures.lines in
    rw (← c.loop-rest.invariant.read, c.cut_line.ensures.lines) (
    ends_here litmus_line_read c.args.text.now c.loop-rest.number so_far new c.cut_line.result.0.now
    (lines_of c.cut_line.result.1.now)
    c.in-Err.cause
    c.loop-rest.invariant.first (omega (arith, counted, c.loop-rest.invariant.counted)) c.in-Err.ensures.line)

pub loop-rest-preserved : goal.loop-rest-preserved
loop-rest-preserved g c =
    let so_far = litmus_reading_of c.loop-rest.draft in
    let new = litmus_reading_of c.take_line.new.draft in
    let counted = ap (λ (ls : List (List ℕ)). length ls) c.cut_line.ensures.lines in
    record {
      room = omega (arith, c.cut_line.ensures.shorter, c.loop-rest.invariant.room);
      counted = omega (arith, counted, c.loop-rest.invariant.counted);
      first = omega arith;
      range = c.in_default.ensures.range;
      read = sym
          (goes_on litmus_line_read c.loop-rest.number so_far new c.cut_line.result.0.now
          (lines_of c.cut_line.result.1.now)
          c.in_default.ensures.line)
          ∙ ap (litmus_lines_after c.loop-rest.number so_far) (sym c.cut_line.ensures.lines)
          ∙ c.loop-rest.invariant.read;
    }

pub returns-clause-ok : goal.returns-clause-ok
returns-clause-ok g c =
    sym c.loop-rest.invariant.read
    ∙ ends litmus_line_read c.loop-rest.number (litmus_reading_of c.loop-rest.draft) c.loop-rest.rest.now
    c.loop-rest-test.ensures
