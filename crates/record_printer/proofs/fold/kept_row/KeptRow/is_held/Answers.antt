use Rattle.std.proofs.Common.{◌∙◌, ap, sym, is_some}
use Rattle.record_printer.proofs.Early.{note_seen, seen_some}
use Rattle.record_printer.proofs.fold.kept_row.KeptRow.is_held.Goals as goal

pub returns-else-number-self-clause-held : goal.returns-else-number-self-clause-held
returns-else-number-self-clause-held g c stops follows =
    let same = rw (← c.self.view_is) at follows in
    c.contains_key.ensures ∙ seen_some c.self.inside.early c.args.number
    ∙ ap (λ x. is_some x)
    (sym (note_seen c.self.inside.early c.args.number) ∙ same.waiting c.args.number c.if-number-self.false)
