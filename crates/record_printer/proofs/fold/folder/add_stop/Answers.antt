use Rattle.std.proofs.Common.{◌∙◌, ◌<◌, ap}
use Rattle.std.proofs.lemmas.Result.{err_from_is_err_and}
use Rattle.std.proofs.lemmas.List.{get_or_default, set-get_or}
use Rattle.record_printer.proofs.Folders.{kept_set}
use Rattle.record_printer.specs.Came.{is_child}
use Rattle.record_printer.specs.Kept.{empty_row}
use Rattle.record_printer.specs.Represents.{with_name}
use Rattle.stop_history.specs.Roster.{row_at}
use Rattle.record_printer.proofs.fold.folder.add_stop.Goals as goal

pub returns-in_err-add_stop-clause-refused : goal.returns-in_err-add_stop-clause-refused
returns-in_err-add_stop-clause-refused g c =
    let inside : c.args.row < _ = rw (← c.requires.paired) at c.requires.row in
    let p = err_from_is_err_and c.from_residual.result c.from_residual.ensures.1 in
    rw (p.1, p.2, get_or_default c.args.kept.now c.args.row empty_row c.index-kept-row.result inside)
    c.in_err-add_stop.ensures.refused

pub returns-in_err-add_stop-clause-accepted : goal.returns-in_err-add_stop-clause-accepted
returns-in_err-add_stop-clause-accepted g c =
    let inside : c.args.row < _ = rw (← c.requires.paired) at c.requires.row in
    let p = err_from_is_err_and c.from_residual.result c.from_residual.ensures.1 in
    rw (p.1, p.2, get_or_default c.args.kept.now c.args.row empty_row c.index-kept-row.result inside)
    c.in_err-add_stop.ensures.accepted

pub returns-in_err-add_stop-clause-err : goal.returns-in_err-add_stop-clause-err
returns-in_err-add_stop-clause-err g c =
    let p = err_from_is_err_and c.from_residual.result c.from_residual.ensures.1 in
    rw (p.1, c.in_err-add_stop.ensures.err) (set-get_or c.args.kept.now c.args.row c.index-kept-row.result)

pub returns-clause-refused : goal.returns-clause-refused
returns-clause-refused g c =
    let inside : c.args.row < _ = rw (← c.requires.paired) at c.requires.row in
    rw (get_or_default c.args.kept.now c.args.row empty_row c.index-kept-row.result inside)
    c.in_ok-add_stop.ensures.refused

pub returns-clause-ok : goal.returns-clause-ok
returns-clause-ok g c =
    let inside : c.args.row < _ = rw (← c.requires.paired) at c.requires.row in
    record {
      after = c.add_stop.new.self;
      added = rw (get_or_default c.args.kept.now c.args.row empty_row c.index-kept-row.result inside)
          c.in_ok-add_stop.ensures.ok;
      each = λ r within. rw (← c.child-child.ensures) (c.name_child.ensures r within
          ∙ ap (with_name (is_child (row_at c.args.rows.now r).tid c.child-child.result))
          (kept_set c.args.kept.now c.args.row r c.add_stop.new.self inside));
    }
