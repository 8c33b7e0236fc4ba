-- By the program and the conditions that were searched.
use Rattle.std.proofs.Common.{◌∙◌, ap, length}
use Rattle.stop_program.specs.Threads.{commands_in}
use Rattle.outcome_text.specs.Searched.{is_chosen_with}
use Rattle.litmus_files.specs.LitmusDraft.{content_in}
use Rattle.outcome_text.proofs.SearchedFiles.{some_chosen_is}
use Rattle.outcome_text.proofs.SomeChosen.{forbids_told}
use Rattle.outcome_text.proofs.searched.is_forbidden.Goals as goal

pub returns : goal.returns
returns c =
    let requirements = c.args.file.now.requirements.items in
    let content = content_in c.args.file.now in
    let known = c.requires.whole in
    let lists = c.as_slice-commands.result.now in
    let found = c.args.whole.now.explored.runs in
    forbids_told requirements c.has_requirements.result c.in_ok-chosen.chosen
    (is_chosen_with content (length requirements)) found c.has_requirements.ensures c.if-not-has_requirements.false
    (c.in_ok-chosen.ensures
    ∙ some_chosen_is content (length requirements) (length lists) (commands_in lists)
    c.as_slice-conditions.result.now found (ap (λ ls. length ls) c.as_slice-commands.ensures.value ∙ known.threads)
    (λ thread. ap (λ ls. commands_in ls thread) c.as_slice-commands.ensures.value ∙ known.commands thread)
    (c.as_slice-conditions.ensures.value ∙ known.conditions))
