use Rattle.std.proofs.Common.{arith}
use Rattle.record_printer.proofs.Folders.{new_push}
use Rattle.record_printer.proofs.fold.folder.new_rows.Goals as goal

pub loop-row-preserved : goal.loop-row-preserved
loop-row-preserved g c =
    record {
      len = rw (c.in_ok-push.ensures.items, c.new.ensures) (grind (arith, c.loop-row.invariant.len));
      new = λ r. rw (c.in_ok-push.ensures.items, c.new.ensures)
          (new_push c.loop-row.kept.items c.loop-row.invariant.new r);
    }
