-- The search for a row that holds a leader back: none so far does.
use Rattle.std.proofs.Common.{◌≡◌, ◌-◌, length}
use Rattle.std.specs.List.{find, range_with_len}
use Rattle.stop_history.specs.History.{holds_back}
use Rattle.stop_history.specs.Word.{state_by}
use Rattle.stop_board.proofs.words.holding_back.Given as goal

-- no row so far holds the leader back
abbrev pub invariant-loop-other : goal.invariant-loop-other
invariant-loop-other g l =
    let test = holds_back l.roster (state_by l.roster l.words) l.at in
    find test (range_with_len 0 (length l.roster)) ≡ find test (range_with_len l.other (length l.roster - l.other))
