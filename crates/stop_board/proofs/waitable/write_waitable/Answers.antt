-- One more row is counted and written, or none.
use Rattle.std.proofs.Common.{◌∷◌, [], ◌∙◌, ℕ, List, arith, sym, ap, set}
use Rattle.std.proofs.lemmas.List.{length-append}
use Rattle.std.specs.List.{filter, range_with_len}
use Rattle.stop_history.specs.Word.{state_by}
use Rattle.stop_board.specs.Waitable.{may_be_answered, written_to}
use Rattle.stop_board.proofs.Waiting.{found_elsewhere, found_here, put_next}
use Rattle.stop_board.proofs.waitable.write_waitable.Goals as goal
use Rattle.stop_board.proofs.waitable.write_waitable.Goals.{then-may_be_answered, else-may_be_answered}

pub loop-row-preserved : goal.loop-row-preserved
loop-row-preserved g c =
    let row = c.loop-row.row in
    let test = may_be_answered c.args.roster.now (state_by c.args.roster.now c.args.words.now) c.args.request in
    let found = filter test (range_with_len 0 row) in
    let so_far = c.loop-row.invariant in
    elim c.if-may_be_answered.branch [
      | then-may_be_answered w ↦ rw (found_here test row (sym c.may_be_answered.ensures ∙ w.if-may_be_answered.true)) (
        omega (arith, length-append found (row ∷ []), so_far.0, w.count-is),
        w.to-is ∙ w.put.ensures ∙ ap (λ (to : List ℕ). set to c.loop-row.count row) so_far.1
            ∙ ap (λ (n : ℕ). set (written_to c.args.to.now found) n row) so_far.0
            ∙ put_next found c.args.to.now row,
        omega (arith, so_far.2, w.count-is),
      )
      | else-may_be_answered w ↦ rw (found_elsewhere test row (sym c.may_be_answered.ensures ∙ w.if-may_be_answered.false)) (
        w.count-is ∙ so_far.0,
        w.to-is ∙ so_far.1,
        omega (arith, so_far.2, w.count-is),
      )
    ]
