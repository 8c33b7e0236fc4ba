-- No turn is written, and each thread has its head.
use Rattle.std.proofs.Common.{◌≡◌, ◌≤◌, ◌++◌, ◌∙◌, ap, arith, codes, length}
use Rattle.std.proofs.Math.Nat.{le-max_left, le-max_right}
use Rattle.std.proofs.lemmas.List.{length-map}
use Rattle.std.proofs.lemmas.Option.{slice_get_past}
use Rattle.stop_program.specs.Threads.{commands_in, items_in}
use Rattle.litmus_files.specs.LitmusDraft.{names_kept}
use Rattle.outcome_text.specs.TurnTexts.{text_source}
use Rattle.outcome_text.proofs.KeptLines.{empty_lines}
use Rattle.outcome_text.proofs.TurnTexts.{texts_none}
use Rattle.outcome_text.proofs.turn_texts.TurnTexts.new.Goals as goal

pub returns-clause-texts : goal.returns-clause-texts
returns-clause-texts g c =
    let program = c.args.program.now in
    let names = c.args.program.now.names.now in
    let lists = c.args.program.now.commands.now in
    texts_none (text_source c.args.program.now) _ c.in_ok-with_capacity.ensures.items c.in_ok-threads.ensures.each
    (c.in_ok-push_str.ensures.bytes ∙ ap (λ text. text ++ codes "order\n") c.in_ok-order.ensures.bytes)
    (let many : length (names_kept names) ≡ length names = length-map names _ in
    let most = le-max_left (length names) (length lists) in
    omega (arith, many, most, c.max-count.ensures, c.in_ok-threads.ensures.long))
    (λ thread past.
    let most = le-max_right (length names) (length lists) in
    let after : length lists ≤ thread = omega (arith, past, most, c.max-count.ensures, c.in_ok-threads.ensures.long) in
    ap items_in (slice_get_past lists thread after))
    (empty_lines program.rows.now (names_kept names) (commands_in lists) _ c.in_ok-lines.ensures)
