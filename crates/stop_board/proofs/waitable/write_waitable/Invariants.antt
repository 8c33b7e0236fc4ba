-- the rows so far are counted and written
use Rattle.std.proofs.Common.{◌≡◌, ◌≤◌, length}
use Rattle.std.specs.List.{filter, range_with_len}
use Rattle.stop_history.specs.Word.{state_by}
use Rattle.stop_board.specs.Waitable.{may_be_answered, written_to}
use Rattle.stop_board.proofs.waitable.write_waitable.Given as goal

abbrev pub invariant-loop-row : goal.invariant-loop-row
invariant-loop-row g l =
    let found = filter (may_be_answered l.roster (state_by l.roster l.words) l.request) (range_with_len 0 l.row) in
    (l.count ≡ length found) × (l.to ≡ written_to l.fn.to found) × (l.count ≤ l.row)
