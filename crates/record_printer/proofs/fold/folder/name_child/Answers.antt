use Rattle.std.proofs.Common.{◌∙◌, ap, sym}
use Rattle.std.proofs.lemmas.List.{get_or_default}
use Rattle.record_printer.proofs.Folders.{as_named, child_found, child_nowhere}
use Rattle.record_printer.specs.Kept.{empty_row}
use Rattle.record_printer.proofs.fold.folder.name_child.Goals as goal

pub returns-in-Some-place_of : goal.returns-in-Some-place_of
returns-in-Some-place_of g c r within =
    let inside = rw (← c.requires.paired) at c.in-Some-place_of.ensures.within in
    rw c.in-Some.is (child_found c.args.rows.now c.args.kept.now c.in-Some.child c.in-Some-place_of.row r
    c.set_named.new.self
    c.requires.roster inside (sym c.in-Some-place_of.ensures.place) within
    (c.set_named.ensures ∙ ap as_named (get_or_default c.args.kept.now c.in-Some-place_of.row _ empty_row inside)))

pub returns-in_default-place_of : goal.returns-in_default-place_of
returns-in_default-place_of g c r within =
    rw c.in-Some.is (child_nowhere c.args.rows.now c.args.kept.now c.in-Some.child r c.requires.roster
    (sym c.in_default-place_of.ensures.place) within)
