-- There are as many threads as names are kept.
use Rattle.std.proofs.Common.{◌≡◌, ◌-◌, ℕ, Bool, None, ap, arith, length}
use Rattle.std.specs.List.{find, range_with_len}
use Rattle.std.specs.Prelude.{slice_index_or}
use Rattle.litmus_files.specs.LitmusDraft.{names_kept}
use Rattle.litmus_files.specs.LitmusFile.{is_printed_as}
use Rattle.litmus_files.proofs.LitmusFiles.{length_kept}
use Rattle.litmus_files.proofs.command.thread_printed_as.Goals as goal

pub loop-thread-init : goal.loop-thread-init
loop-thread-init c =
    let names = names_kept c.args.names.now in
    let test : ℕ → Bool = λ thread. is_printed_as thread (slice_index_or names thread None) c.args.word.now in
    let long : length names ≡ length c.args.names.now - 0 = omega (arith, length_kept c.args.names.now) in
    ap (λ k. find test (range_with_len 0 k)) long
