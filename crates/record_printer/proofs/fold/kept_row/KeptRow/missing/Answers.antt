use Rattle.record_printer.proofs.Following.{missing_none, missing_some}
use Rattle.record_printer.specs.KeptRow.{kept_of}
use Rattle.record_printer.proofs.fold.kept_row.KeptRow.missing.Goals as goal

pub returns-then-done-due : goal.returns-then-done-due
returns-then-done-due g c stops follows =
    let same = rw (← c.self.view_is) at follows in
    let less = rw c.from-done.ensures at c.if-done-due.true in
    rw c.from-done.ensures
    (missing_some (kept_of c.self.inside) stops c.due.result c.args.self.now.ending c.args.self.now.last same
    c.due.ensures less)

pub returns-else-done-due : goal.returns-else-done-due
returns-else-done-due g c stops follows =
    let same = rw (← c.self.view_is) at follows in
    let all = rw c.from-done.ensures at c.if-done-due.false in
    missing_none (kept_of c.self.inside) stops c.due.result c.args.self.now.ending c.args.self.now.last same
    c.due.ensures all
