-- No outcome has all that the file requires, and so no run has; or those that have it are listed.
use Rattle.std.proofs.Common.{◌∙◌, length, refl, string_bytes, subst, sym, true}
use Rattle.tracer_cli.specs.Explored.{WritesShown, shows_ends}
use Rattle.outcome_text.specs.Searched.{all_text, chosen_with}
use Rattle.litmus_files.specs.LitmusDraft.{content_in}
use Rattle.tracer_cli.specs.Run.{WritesIfMemory}
use Rattle.tracer_cli.proofs.ExploredFiles.{all_shown, forbidden_shown}
use Rattle.outcome_text.proofs.SearchedFiles.{known_of}
use Rattle.tracer_cli.proofs.PrintsOutcomes.{forbidden_printed, shown_printed}
use Rattle.outcome_text.proofs.Unmet.{forbidden_unmet}
use Rattle.tracer_cli.proofs.explored.print_found.Goals as goal

pub explain-requires-clause-unmet : goal.explain-requires-clause-unmet
explain-requires-clause-unmet g c =
    let file = c.args.file.now in
    let whole = c.args.whole.now in
    forbidden_unmet (content_in file) (length file.requirements.items) whole.explored.places whole.explored.runs
    (known_of file c.requires.file) c.requires.whole.all (sym c.in_ok-is_forbidden.ensures ∙ c.if-branch.true)

pub returns-then-branch-clause-printed : goal.returns-then-branch-clause-printed
returns-then-branch-clause-printed g c =
    let file = c.args.file.now in
    let whole = c.args.whole.now in
    forbidden_printed c.args.options (content_in file) (string_bytes c.in_ok-text.text)
    (g.W.Write.contents c.args.output.now) (g.W.Write.contents c.print_forbidden.new.output) c.print_forbidden.result
    (forbidden_shown c.args.options (content_in file) (string_bytes c.in_ok-text.text) c.requires.all c.requires.few
    (forbidden_unmet (content_in file) (length file.requirements.items) whole.explored.places
    whole.explored.runs (known_of file c.requires.file) c.requires.whole.all
    (sym c.in_ok-is_forbidden.ensures ∙ c.if-branch.true))
    c.in_ok-text.ensures)
    (subst (λ t. WritesShown t true (g.W.Write.contents c.args.output.now)
    (g.W.Write.contents c.print_forbidden.new.output) c.print_forbidden.result) c.as_str.ensures.value
    c.print_forbidden.ensures.printed)

pub returns-clause-printed : goal.returns-clause-printed
returns-clause-printed g c =
    let file = c.args.file.now in
    let whole = c.args.whole.now in
    let content = content_in file in
    let text = all_text (shows_ends c.args.options.listing) content whole.explored.places
    (chosen_with content (length file.requirements.items) whole.explored.runs) in
    let before = g.W.Write.contents c.args.output.now in
    let after = g.W.Write.contents c.print_chosen.new.output in
    shown_printed c.args.options content text before after c.print_chosen.result
    (all_shown c.args.options content whole text c.requires.whole c.requires.all
    (sym c.in_ok-is_forbidden.ensures ∙ c.if-branch.false) refl)
    (subst (λ ends. WritesIfMemory (all_text ends content whole.explored.places
    (chosen_with content (length file.requirements.items) whole.explored.runs)) before after c.print_chosen.result)
    c.shows_ends-ends.ensures c.print_chosen.ensures.printed)
