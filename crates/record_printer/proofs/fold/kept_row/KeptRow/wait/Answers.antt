use Rattle.std.proofs.Common.{refl}
use Rattle.record_printer.proofs.KeptRows.{waits_kept}
use Rattle.record_printer.proofs.fold.kept_row.KeptRow.wait.Goals as goal

pub returns-clause-ok : goal.returns-clause-ok
returns-clause-ok g c =
    let old = c.self.inside in
    let new = record old { last = c.max-self-inside.result; early = c.insert.new.self } in
    let later = rw (← c.self.view_is) at c.requires.later in
    rw (← c.self.view_is)
    (waits_kept old new c.args.number c.args.note later refl refl c.max-self-inside.ensures refl refl
    c.in_ok-insert.ensures.updates.0)
