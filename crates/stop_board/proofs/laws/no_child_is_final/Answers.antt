-- Selected rows that are gone are over, from the first row on, and what is over stays gone.
use Rattle.std.proofs.Common.{◌≡◌, ◌<◌, ◌++◌, ℕ, zero, suc, true, List, length, arith}
use Rattle.stop_history.proofs.Over.{closed_over, over_is_gone, over_stays, selection_closed}
use Rattle.stop_history.specs.Event.{History}
use Rattle.stop_history.specs.Over.{IsOver}
use Rattle.stop_history.specs.Roster.{IsRoster, row_at}
use Rattle.stop_history.specs.Selection.{has_parents, is_selected}
use Rattle.stop_history.specs.State.{state_after}
use Rattle.stop_history.specs.declared.roster.Row.{Row}
use Rattle.stop_history.specs.declared.wait_request.WaitRequest.{WaitRequest}
use Rattle.stop_board.specs.Waitable.{AreGone}
use Rattle.stop_board.proofs.laws.no_child_is_final.Goals as goal

over_below : (rows : List Row) (request : WaitRequest) (h : History) → IsRoster rows
    → has_parents request.selection ≡ true → AreGone rows (state_after rows h) request
    → (n row : ℕ) → row < n → row < length rows → is_selected request.selection (row_at rows row) ≡ true
    → IsOver rows request.deaths h row
over_below rows request h roster parents gone zero row low within selected = absurd (omega arith)
over_below rows request h roster parents gone (suc n) row low within selected =
    closed_over rows roster (λ r. is_selected request.selection (row_at rows r))
    (selection_closed rows roster request.selection parents) request.deaths h row within selected
    (λ before earlier chosen.
    let lower : before < n = omega arith in
    let inside : before < length rows = omega arith in
    over_below rows request h roster parents gone n before lower inside chosen)
    (gone row (within, selected))

pub returns : goal.returns
returns c = λ rows request more h roster legal parents gone row selected.
    over_is_gone rows request.deaths (more ++ h) row
    (over_stays rows request.deaths more h legal row
    (over_below rows request h roster parents gone (suc row) row (omega arith) selected.0 selected.1))
