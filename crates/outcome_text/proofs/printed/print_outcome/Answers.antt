-- What was collected is the text so far and that of the outcome; or nothing of both is written.
use Rattle.std.proofs.Common.{◌++◌, string_bytes}
use Rattle.stop_program.specs.Threads.{commands_in}
use Rattle.litmus_files.specs.LitmusDraft.{names_kept}
use Rattle.outcome_text.specs.OutcomeText.{outcome_text}
use Rattle.outcome_text.proofs.TextOfParts.{cut_off_as, none_written}
use Rattle.outcome_text.proofs.printed.print_outcome.Goals as goal

pub returns-in-Ok-clause-cut_off : goal.returns-in-Ok-clause-cut_off
returns-in-Ok-clause-cut_off g c =
    let program = c.args.program.now in
    cut_off_as c.write_enough.result (g.W.Write.contents c.args.output.now)
    (g.W.Write.contents c.write_enough.new.output) (string_bytes c.collect_outcome.new.printer.text)
    (string_bytes c.args.printer.now.text ++ outcome_text program.rows.now (names_kept program.names.now) program.voices.now
    (commands_in program.commands.now) c.args.number c.args.count c.args.run.now)
    c.in-Ok.ensures.text c.write_enough.ensures.cut_off

pub returns-in-Err-clause-cut_off : goal.returns-in-Err-clause-cut_off
returns-in-Err-clause-cut_off g c = none_written (g.W.Write.contents c.args.output.now) (string_bytes c.args.printer.now.text) _ _
