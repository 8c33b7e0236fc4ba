-- The order of an outcome is a text that is shown.
use Rattle.std.proofs.Common.{string_bytes, subst}
use Rattle.litmus_files.specs.LitmusDraft.{content_in}
use Rattle.tracer_cli.specs.Run.{Writes}
use Rattle.tracer_cli.proofs.PrintsOutcomes.{shown_printed, writes_if_memory}
use Rattle.tracer_cli.proofs.explored.explore_content.Goals as goal

pub returns-in-Some-clause-printed : goal.returns-in-Some-clause-printed
returns-in-Some-clause-printed g c =
    let before = g.W.Write.contents c.args.output.now in
    let after = g.W.Write.contents c.print.new.output in
    let text = string_bytes c.in_ok-order-in-Some.order in
    shown_printed c.args.options (content_in c.args.file.now) text before after c.print.result
    c.in_ok-order-in-Some.ensures.shown
    (writes_if_memory text before after c.print.result
    (subst (λ t. Writes t before after c.print.result) c.as_bytes.ensures.value c.print.ensures))
