-- The bytes of a fill are the last ones.
use Rattle.std.proofs.Common.{List, Some, ap, arith, ℕ}
use Rattle.trace_script.specs.CaseLine.{bytes_written}
use Rattle.trace_script.specs.Script.{Fill}
use Rattle.trace_script.proofs.ByteWords.{bytes_are_halves}
use Rattle.trace_script.proofs.OpenBlocks.{fill_added}
use Rattle.trace_script.proofs.case.block.keep_fill.Goals as goal

pub returns-clause-fill : goal.returns-clause-fill
returns-clause-fill g c more =
    let fill = c.in-Some.fill in
    let filled = c.args.filled.now in
    let tested = rw c.in-Some.is at c.requires in
    let with_bytes : List ℕ → Fill = λ bytes. record { address = fill.addr; bytes = bytes } in
    rw c.in-Some.is (
    ap (λ bytes. Some (with_bytes bytes))
    (fill_added filled.items (bytes_written fill.bytes.now) c.decode_onto.new.bytes.items more _ _
    c.in_ok-decode_onto.ensures (omega (arith, c.in_ok-start.ensures.kept, c.len.ensures, filled.ok.0))
    (omega (arith, c.in_ok-len.ensures.kept, bytes_are_halves fill.bytes.now tested))))
