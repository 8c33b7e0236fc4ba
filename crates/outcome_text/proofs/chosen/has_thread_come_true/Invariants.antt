-- Each reply so far came true.
use Rattle.std.proofs.Common.{◌≡◌, ◌-◌, ℕ, Bool, length}
use Rattle.std.specs.List.{list_all, range_with_len}
use Rattle.stop_program.specs.Program.{own_turns}
use Rattle.stop_program.specs.Replies.{done_from}
use Rattle.outcome_text.specs.Chosen.{has_come_true}
use Rattle.outcome_text.proofs.chosen.has_thread_come_true.Given as goal

abbrev pub invariant-loop-at : goal.invariant-loop-at
invariant-loop-at l =
    let test : ℕ → Bool = has_come_true l.commands (done_from l.commands 0 (own_turns l.thread l.turns)) in
    list_all test (range_with_len 0 (length l.commands))
    ≡ list_all test (range_with_len l.at (length l.commands - l.at))
