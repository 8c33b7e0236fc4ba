-- By the commands of each thread, which are the file's own.
use Rattle.std.proofs.Common.{◌∙◌, ap, length}
use Rattle.stop_program.specs.Threads.{commands_in}
use Rattle.litmus_files.specs.Required.{program_with}
use Rattle.outcome_text.proofs.SearchedFiles.{have_calls}
use Rattle.outcome_text.proofs.Unmet.{asked_with}
use Rattle.tracer_cli.proofs.explored.order_text.Goals as goal

pub outcome_replay-requires : goal.outcome_replay-requires
outcome_replay-requires c =
    let file = c.args.file.now in
    let all = length file.requirements.items in
    have_calls (commands_in c.as_slice-commands.result.now) (program_with all file.lines.items)
    (λ thread. ap (λ lists. commands_in lists thread) c.as_slice-commands.ensures.value
    ∙ c.requires.whole.commands thread)
    (asked_with all file.lines.items c.requires.file.calls)
