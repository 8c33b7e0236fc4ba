-- What is written, and the threads that are left, are all threads.
use Rattle.std.proofs.Common.{◌≡◌, ◌++◌, drop, string_bytes}
use Rattle.stop_program.specs.Threads.{commands_in}
use Rattle.litmus_files.specs.LitmusDraft.{names_kept}
use Rattle.outcome_text.specs.OutcomeText.{threads_text}
use Rattle.outcome_text.proofs.text.write_threads.Given as goal

abbrev pub invariant-loop-thread : goal.invariant-loop-thread
invariant-loop-thread g l =
    string_bytes l.out ++ threads_text l.program.rows.now l.program.voices.now (commands_in l.program.commands.now)
    l.run l.thread (names_kept (drop l.thread l.program.names.now))
    ≡ string_bytes l.fn.out ++ threads_text l.program.rows.now l.program.voices.now
    (commands_in l.program.commands.now) l.run 0 (names_kept l.program.names.now)
