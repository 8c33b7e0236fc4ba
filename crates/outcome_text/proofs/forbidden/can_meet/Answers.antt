-- The outcomes that were found with all requirements decide, where each reply is among the first n; or those with these.
use Rattle.std.proofs.Common.{◌≡◌, ◌∙◌, ap, length, sym, true}
use Rattle.stop_program.specs.Threads.{commands_in}
use Rattle.outcome_text.specs.Searched.{have_numbers_to}
use Rattle.litmus_files.specs.LitmusDraft.{content_in}
use Rattle.litmus_files.specs.Required.{conditions_with}
use Rattle.outcome_text.proofs.SearchedFiles.{commands_within, known_of, outcomes_within, some_chosen_is}
use Rattle.outcome_text.proofs.Unmet.{decided}
use Rattle.outcome_text.proofs.forbidden.can_meet.Goals as goal

pub returns-then-have_numbers_to-clause-met : goal.returns-then-have_numbers_to-clause-met
returns-then-have_numbers_to-clause-met c =
    let file = c.args.file.now in
    let content = content_in file in
    let whole = c.args.whole.now in
    let all = length file.requirements.items in
    let known = c.requires.whole in
    let lists = c.as_slice-commands.result.now in
    let conditions = c.as_slice-then-have_numbers_to-2.result.now in
    let within : have_numbers_to c.args.count file.lines.items ≡ true =
    ap (have_numbers_to c.args.count) (sym c.as_slice.ensures.value) ∙ sym c.have_numbers_to.ensures
    ∙ c.if-have_numbers_to.true in
    decided content c.args.count whole.explored.places whole.explored.runs c.in_ok-can.can
    (known_of file c.requires.file)
    (outcomes_within content c.args.count all whole.explored.places whole.explored.runs c.requires.few within
    known.all)
    (c.in_ok-can.ensures
    ∙ some_chosen_is content c.args.count (length lists) (commands_in lists) conditions whole.explored.runs
    (ap (λ ls. length ls) c.as_slice-commands.ensures.value ∙ known.threads)
    (commands_within content c.args.count all (commands_in lists) c.requires.few within
    (λ thread. ap (λ ls. commands_in ls thread) c.as_slice-commands.ensures.value
    ∙ known.commands thread))
    (c.as_slice-then-have_numbers_to-2.ensures.value ∙ c.in_ok-conditions.ensures
    ∙ ap (conditions_with c.args.count) c.as_slice-then-have_numbers_to.ensures.value))

pub returns-clause-met : goal.returns-clause-met
returns-clause-met c =
    let file = c.args.file.now in
    let content = content_in file in
    let part = c.in_ok-part.part in
    let known = c.in_ok-part.ensures.found in
    let lists = c.as_slice-commands-2.result.now in
    let conditions = c.as_slice-2.result.now in
    decided content c.args.count part.explored.places part.explored.runs c.in_ok-can-2.can
    (known_of file c.requires.file) known.all
    (c.in_ok-can-2.ensures
    ∙ some_chosen_is content c.args.count (length lists) (commands_in lists) conditions part.explored.runs
    (ap (λ ls. length ls) c.as_slice-commands-2.ensures.value ∙ known.threads)
    (λ thread. ap (λ ls. commands_in ls thread) c.as_slice-commands-2.ensures.value ∙ known.commands thread)
    (c.as_slice-2.ensures.value ∙ known.conditions))
