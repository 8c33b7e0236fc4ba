-- No thread so far is printed so.
use Rattle.std.proofs.Common.{◌≡◌, ◌-◌, ℕ, Bool, None, length}
use Rattle.std.specs.List.{find, range_with_len}
use Rattle.std.specs.Prelude.{slice_index_or}
use Rattle.litmus_files.specs.LitmusDraft.{names_kept}
use Rattle.litmus_files.specs.LitmusFile.{is_printed_as, thread_printed_as}
use Rattle.litmus_files.proofs.command.thread_printed_as.Given as goal

abbrev pub invariant-loop-thread : goal.invariant-loop-thread
invariant-loop-thread l =
    let test : ℕ → Bool = λ thread. is_printed_as thread (slice_index_or (names_kept l.names) thread None) l.word in
    thread_printed_as (names_kept l.names) l.word ≡ find test (range_with_len l.thread (length l.names - l.thread))
