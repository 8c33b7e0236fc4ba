-- The replies of each thread so far came true.
use Rattle.std.proofs.Common.{◌≡◌, ◌-◌, ℕ, Bool, length}
use Rattle.std.specs.List.{list_all, range_with_len}
use Rattle.stop_program.specs.Replies.{done_by_thread}
use Rattle.stop_program.specs.Threads.{commands_in}
use Rattle.outcome_text.specs.Chosen.{has_thread_come_true}
use Rattle.outcome_text.proofs.chosen.have_come_true.Given as goal

abbrev pub invariant-loop-thread : goal.invariant-loop-thread
invariant-loop-thread g l =
    let test : ℕ → Bool = λ thread.
    has_thread_come_true (commands_in l.commands thread) (done_by_thread (commands_in l.commands) l.turns thread) in
    list_all test (range_with_len 0 (length l.commands))
    ≡ list_all test (range_with_len l.thread (length l.commands - l.thread))
