-- The words so far, and those of the threads that are left, are all words.
use Rattle.std.proofs.Common.{◌≡◌, ◌+◌, ◌-◌, ◌++◌, filter, length, map, string_bytes}
use Rattle.std.specs.List.{range_with_len}
use Rattle.stop_program.specs.Threads.{commands_in}
use Rattle.outcome_text.specs.Conditions.{waits_at_end}
use Rattle.litmus_files.specs.LitmusDraft.{names_kept}
use Rattle.outcome_text.specs.OutcomeEnds.{waiting_words}
use Rattle.outcome_text.specs.OutcomeText.{name_at, thread_word}
use Rattle.outcome_text.proofs.ends.who_waits.Given as goal

abbrev pub invariant-loop-thread : goal.invariant-loop-thread
invariant-loop-thread g l =
    map string_bytes l.words.items
    ++ map (λ thread. thread_word (thread + 1) (name_at (names_kept l.names) thread))
    (filter (waits_at_end (commands_in l.commands) l.turns) (range_with_len l.thread (length l.names - l.thread)))
    ≡ waiting_words (names_kept l.names) (commands_in l.commands) l.turns
