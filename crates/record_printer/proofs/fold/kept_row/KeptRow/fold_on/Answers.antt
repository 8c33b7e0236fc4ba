use Rattle.std.proofs.Common.{refl, arith, ◌≡◌, ◌+◌}
use Rattle.record_printer.proofs.KeptRows.{folds_kept}
use Rattle.record_printer.proofs.Stops.{less_room}
use Rattle.record_printer.proofs.fold.kept_row.KeptRow.fold_on.Goals as goal

pub fold_chain-requires-clause-room : goal.fold_chain-requires-clause-room
fold_chain-requires-clause-room g c =
    let lines = rw c.in_ok-chain.ensures.ok_part at c.chain_from.ensures.lines in
    let behind = rw c.in_ok-chain.ensures.ok_part at c.chain_from.ensures.behind in
    let first = rw c.in_ok-room.ensures.ok_part at c.with.ensures.lines in
    let next = rw c.in_ok-room.ensures.ok_part at c.with.ensures.behind in
    c.take.ensures.room _ _ (less_room c.reserve.new.self _ _ _ _ c.in_ok-reserve.ensures.room
    (omega (arith, lines, first, c.none.ensures.lines)) (omega (arith, behind, next, c.none.ensures.behind)))

pub returns-clause-ok : goal.returns-clause-ok
returns-clause-ok g c =
    let old = c.self.inside in
    let last = c.in_ok-chain.chain.last in
    let new = record old {
      last = c.max-last.result;
      done = last;
      fold = c.fold_chain.new.fold;
      early = c.fold_chain.new.early;
    } in
    let e : (old.done + 1) + 1 ≡ old.done + 2 = omega arith in
    let chain = rw (c.in_ok-chain.ensures.ok_part, e) at c.chain_from.ensures.chain in
    let folded = rw (c.take.ensures.fold, c.reserve.ensures.same, e) at c.fold_chain.ensures.fold in
    rw (← c.self.view_is)
    (folds_kept old new (last + 1) c.args.note refl refl c.max-last.ensures chain (omega arith) folded
    c.fold_chain.ensures.left)
