use Rattle.std.proofs.Common.{◌≡◌, ◌∙◌, arith, ap, length}
use Rattle.std.proofs.lemmas.List.{with_items_is}
use Rattle.record_printer.proofs.Folders.{folded_back}
use Rattle.record_printer.proofs.fold.folder.Folder.add.Goals as goal

pub invariant_of-self : goal.invariant_of-self
invariant_of-self g c =
    let long : length c.add_piece.new.kept ≡ c.self.inside.kept.len = omega
    (arith, c.add_piece.auto.kept, c.as_mut_slice.ensures.len) in
    let same = with_items_is c.self.inside.kept c.add_piece.new.kept long in
    (c.self.invariant.0, ap length same ∙ omega (arith, long, c.self.invariant.1, c.self.inside.kept.ok.0))

pub returns-clause-refused : goal.returns-clause-refused
returns-clause-refused g c =
    let answers = rw (c.as_slice.ensures.value, c.as_mut_slice.ensures.value) at c.add_piece.ensures.refused in
    rw (← c.self.view_is) answers

pub returns-clause-accepted : goal.returns-clause-accepted
returns-clause-accepted g c =
    let answers = rw (c.as_slice.ensures.value, c.as_mut_slice.ensures.value) at c.add_piece.ensures.accepted in
    rw (← c.self.view_is) answers

pub returns-clause-ok : goal.returns-clause-ok
returns-clause-ok g c =
    let long : length c.add_piece.new.kept ≡ c.self.inside.kept.len = omega
    (arith, c.add_piece.auto.kept, c.as_mut_slice.ensures.len) in
    let same = with_items_is c.self.inside.kept c.add_piece.new.kept long in
    let added = rw (c.as_slice.ensures.value, c.as_mut_slice.ensures.value, ← same) at c.add_piece.ensures.ok in
    rw (← c.self.view_is) added

pub returns-clause-err : goal.returns-clause-err
returns-clause-err g c =
    let long : length c.add_piece.new.kept ≡ c.self.inside.kept.len = omega
    (arith, c.add_piece.auto.kept, c.as_mut_slice.ensures.len) in
    let same = with_items_is c.self.inside.kept c.add_piece.new.kept long in
    let left = rw (c.as_mut_slice.ensures.value) at c.add_piece.ensures.err in
    rw (← c.self.view_is)
    (folded_back c.self.inside.rows.items c.self.inside.kept.items c.add_piece.new.kept _ c.add_piece.result
    same left)
