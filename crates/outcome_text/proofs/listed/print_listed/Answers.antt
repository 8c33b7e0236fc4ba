-- By what is kept of the file and of what was found.
use Rattle.std.proofs.Common.{◌∙◌, ap, length}
use Rattle.stop_program.specs.Threads.{commands_in}
use Rattle.litmus_files.specs.LitmusDraft.{content_in, names_kept}
use Rattle.outcome_text.proofs.SearchedFiles.{printed_are}
use Rattle.outcome_text.proofs.listed.print_listed.Goals as goal

pub returns-clause-printed : goal.returns-clause-printed
returns-clause-printed g c =
    let file = c.args.file.now in
    let told = c.told_program-program.result in
    let is = c.told_program-program.ensures in
    let whole = c.args.whole.now in
    printed_are (content_in file) (length told.commands.now) whole.explored.places
    (commands_in told.commands.now) c.as_slice-conditions.result.now told.rows.now (names_kept told.names.now)
    told.voices.now c.has_requirements-required.result whole.explored.runs (g.W.Write.contents c.args.output.now)
    (g.W.Write.contents c.print_outcomes.new.output) c.print_outcomes.result is.rows (ap names_kept is.names) is.voices
    (ap length is.commands ∙ c.requires.whole.threads)
    (λ thread. ap (λ lists. commands_in lists thread) is.commands ∙ c.requires.whole.commands thread)
    (c.as_slice-conditions.ensures.value ∙ c.requires.whole.conditions) c.has_requirements-required.ensures
    c.print_outcomes.ensures.written
