-- A row that the wait does not speak of need not be gone.
use Rattle.std.proofs.Common.{below_more}
use Rattle.stop_board.proofs.waitable.are_gone.Goals as goal
use Rattle.stop_board.proofs.waitable.are_gone.Goals.{else-has-via-then-has+else-not-is_gone, else-has-via-else-has}

pub loop-row-preserved : goal.loop-row-preserved
loop-row-preserved g c = below_more _ _ c.loop-row.invariant (
    elim c.else-has.branch [
      | else-has-via-then-has+else-not-is_gone w ↦ λ selected. cc
      | else-has-via-else-has w ↦ λ selected. absurd (cc)
    ])
