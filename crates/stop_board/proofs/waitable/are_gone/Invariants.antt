-- each row so far that the wait speaks of is gone
use Rattle.std.proofs.Common.{◌≡◌, ◌<◌, ℕ, true}
use Rattle.stop_history.specs.Over.{is_gone}
use Rattle.stop_history.specs.Roster.{row_at}
use Rattle.stop_history.specs.Selection.{is_selected}
use Rattle.stop_history.specs.Word.{state_by}
use Rattle.stop_board.proofs.waitable.are_gone.Given as goal

abbrev pub invariant-loop-row : goal.invariant-loop-row
invariant-loop-row g l =
    (k : ℕ) → k < l.row → is_selected l.request.selection (row_at l.roster k) ≡ true
    → is_gone l.request.deaths (state_by l.roster l.words k) ≡ true
