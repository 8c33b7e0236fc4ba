use Rattle.std.proofs.Common.{arith}
use Rattle.record_printer.proofs.Writes.{appends_more, rest_whole}
use Rattle.record_printer.proofs.text.write_bytes.Goals as goal

pub loop-written-preserved : goal.loop-written-preserved
loop-written-preserved g c =
    let bound = c.in-Ok.ensures.bound in
    record {
      within = grind (arith, bound);
      written = appends_more (g.W.Write.contents c.args.writer.now) (g.W.Write.contents c.loop-written.writer)
          (g.W.Write.contents c.write.new.self)
          c.args.bytes.now c.loop-written.written c.in-Ok.count c.loop-written.invariant.written
          (rw (rest_whole c.args.bytes.now c.loop-written.written) at c.in-Ok.ensures.bytes);
    }
