use Rattle.record_printer.proofs.Following.{text_is}
use Rattle.record_printer.specs.KeptRow.{kept_of}
use Rattle.record_printer.proofs.fold.kept_row.KeptRow.into_text.Goals as goal

pub returns-in-Some : goal.returns-in-Some
returns-in-Some g c stops follows complete =
    let same = rw (← c.self.view_is) at follows in
    let whole = rw (← c.self.view_is) at complete in
    let ended = c.self.invariant.ended_in c.in-Some.ending c.in-Some.is in
    let none = whole c.in-Some.ending c.in-Some.is in
    let text = text_is (kept_of c.self.inside) c.args.tid stops c.in-Some.ending c.self.invariant.done_in ended
    same (rw c.in-Some.is at none) in
    rw (← c.self.view_is, c.in-Some.is, ← text) c.finish.ensures
