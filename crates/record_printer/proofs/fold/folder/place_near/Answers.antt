-- No other row has the thread id.
use Rattle.std.proofs.Common.{◌∙◌, sym, ap}
use Rattle.stop_history.proofs.Rosters.{row_of-tid}
use Rattle.stop_history.specs.Roster.{nobody, row_of}
use Rattle.stop_history.specs.declared.roster.Row.{Row}
use Rattle.record_printer.proofs.fold.folder.place_near.Goals as goal

pub returns-in-Some-clause-place : goal.returns-in-Some-clause-place
returns-in-Some-clause-place c =
    let there = c.in-Some.ensures.lookup.3 in
    sym (ap (row_of c.args.rows.now) (sym c.if-row-tid.true ∙ ap (λ (r : Row). r.tid) (there.1 nobody))
    ∙ row_of-tid c.args.rows.now c.requires c.args.near there.0)
