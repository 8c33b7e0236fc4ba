-- How outcomes end is a text that is written; each outcome is printed by itself.
use Rattle.std.proofs.Common.{Bool, length, string_bytes, subst, sym, true}
use Rattle.outcome_text.specs.Searched.{all_text, chosen_with}
use Rattle.litmus_files.specs.LitmusDraft.{content_in}
use Rattle.tracer_cli.specs.Run.{Writes, WritesIfMemory}
use Rattle.tracer_cli.proofs.PrintsOutcomes.{writes_as}
use Rattle.tracer_cli.proofs.explored.print_chosen.Goals as goal

pub returns-then-ends-clause-printed : goal.returns-then-ends-clause-printed
returns-then-ends-clause-printed g c =
    let file = c.args.file.now in
    let found = c.args.whole.now.explored in
    let content = content_in file in
    let chosen = chosen_with content (length file.requirements.items) found.runs in
    let before = g.W.Write.contents c.args.output.now in
    let after = g.W.Write.contents c.print.new.output in
    subst (λ (ends : Bool). WritesIfMemory (all_text ends content found.places chosen) before after c.print.result)
    (sym c.if-ends.true)
    (writes_as (string_bytes c.in_ok-text.text) (all_text true content found.places chosen) before after c.print.result
    c.in_ok-text.ensures
    (subst (λ t. Writes t before after c.print.result) c.as_bytes.ensures.value c.print.ensures))

pub returns-clause-printed : goal.returns-clause-printed
returns-clause-printed g c =
    let file = c.args.file.now in
    let found = c.args.whole.now.explored in
    let content = content_in file in
    let chosen = chosen_with content (length file.requirements.items) found.runs in
    subst (λ (ends : Bool). WritesIfMemory (all_text ends content found.places chosen)
    (g.W.Write.contents c.args.output.now) (g.W.Write.contents c.print_each.new.output) c.print_each.result)
    (sym c.if-ends.false) c.print_each.ensures.printed
