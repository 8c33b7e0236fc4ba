-- The next outcome is printed with the next number, or is left out.
use Rattle.std.proofs.Common.{◌≡◌, ◌∙◌, ◌+◌, Some, ap, arith, drop, length, slice_get, string_bytes, subst, sym}
use Rattle.std.proofs.lemmas.List.{nil_from_length}
use Rattle.stop_program.specs.Run.{EndedRun}
use Rattle.stop_program.specs.Threads.{commands_in}
use Rattle.stop_explorer.specs.OutcomeReader.{BeginAlike}
use Rattle.outcome_text.specs.Chosen.{chosen_of}
use Rattle.litmus_files.specs.LitmusDraft.{names_kept}
use Rattle.outcome_text.specs.OutcomeText.{IsTextOfStates, outcome_text, outcome_texts}
use Rattle.outcome_text.specs.TurnTexts.{AreTextsOf, text_source, turns_written}
use Rattle.outcome_text.proofs.Beginnings.{all_alike, both_alike}
use Rattle.outcome_text.proofs.OutcomeLines.{chosen_here, chosen_not_here, chosen_over, outcomes_more, outcomes_over}
use Rattle.outcome_text.proofs.OutcomeLines.{outcomes_some}
use Rattle.outcome_text.proofs.Printing.{at_last, cut_before, cut_there, one_more, so_far_as}
use Rattle.outcome_text.proofs.TextOfParts.{of_error}
use Rattle.outcome_text.proofs.printed.print_chosen.Goals as goal
use Rattle.outcome_text.proofs.printed.print_chosen.Goals.{then-is_printed+in_ok-print_outcome, else-is_printed}

pub returns-then-before-printed-clause-ok : goal.returns-then-before-printed-clause-ok
returns-then-before-printed-clause-ok g c =
    let program = c.args.program.now in
    let threads = length program.commands.now in
    let commands = commands_in program.commands.now in
    let conditions = c.args.printed.now.conditions.now in
    let runs = c.args.printed.now.explored.now.runs in
    let count = c.args.printed.now.count in
    let rows = program.rows.now in
    let names = names_kept program.names.now in
    let voices = program.voices.now in
    let number = c.loop-number.number in
    let before = c.loop-number.before in
    let left = chosen_of threads commands conditions (drop number runs) in
    at_last (g.W.Write.contents c.args.output.now) (g.W.Write.contents c.loop-number.output)
    (string_bytes c.args.printer.now.text)
    (outcome_texts rows names voices commands 1 count (chosen_of threads commands conditions runs))
    (string_bytes c.loop-number.printer.text) (outcome_texts rows names voices commands (before + 1) count left)
    c.loop-number.invariant.so_far
    (outcomes_over rows names voices commands _ count left
    (nil_from_length left (omega (arith, c.loop-number.invariant.counted, c.if-before-printed.true))))

-- one that is chosen is left
pub returns-in_err-kept-clause-cut_off : goal.returns-in_err-kept-clause-cut_off
returns-in_err-kept-clause-cut_off g c =
    let program = c.args.program.now in
    let threads = length program.commands.now in
    let commands = commands_in program.commands.now in
    let conditions = c.args.printed.now.conditions.now in
    let runs = c.args.printed.now.explored.now.runs in
    let count = c.args.printed.now.count in
    let rows = program.rows.now in
    let names = names_kept program.names.now in
    let voices = program.voices.now in
    let number = c.loop-number.number in
    let before = c.loop-number.before in
    let left = chosen_of threads commands conditions (drop number runs) in
    of_error c.from_residual.result
    (cut_before (g.W.Write.contents c.args.output.now) (g.W.Write.contents c.loop-number.output)
    (string_bytes c.args.printer.now.text)
    (outcome_texts rows names voices commands 1 count (chosen_of threads commands conditions runs))
    (string_bytes c.loop-number.printer.text) (outcome_texts rows names voices commands (before + 1) count left)
    c.loop-number.invariant.so_far
    (outcomes_some rows names voices commands (before + 1) count left
    (omega (arith, c.loop-number.invariant.counted, c.if-before-printed.false))))

-- what the printed outcome before, the one read before and this one begin with
pub print_outcome-requires-clause-same : goal.print_outcome-requires-clause-same
print_outcome-requires-clause-same g c =
    let log = turns_written c.loop-number.printer.texts.turns in
    let same = c.loop-number.same in
    let kept = c.in_ok-kept.kept in
    let least = c.lesser-same.result in
    subst (λ (run : EndedRun). BeginAlike least log run.turns) (sym c.run-run.ensures)
    (both_alike least same kept log c.loop-number.reader.run.turns c.read_outcome.new.reader.run.turns
    c.lesser-same.ensures.first c.lesser-same.ensures.second c.loop-number.invariant.same c.in_ok-kept.ensures.kept)

pub loop-number-preserved : goal.loop-number-preserved
loop-number-preserved g c =
    let program = c.args.program.now in
    let threads = length program.commands.now in
    let commands = commands_in program.commands.now in
    let conditions = c.args.printed.now.conditions.now in
    let runs = c.args.printed.now.explored.now.runs in
    let count = c.args.printed.now.count in
    let rows = program.rows.now in
    let names = names_kept program.names.now in
    let voices = program.voices.now in
    let number = c.loop-number.number in
    let before = c.loop-number.before in
    let run = c.run-run.result.now in
    let here_is : slice_get runs number ≡ Some run =
    ap (λ rs. slice_get rs number) (sym c.loop-number.invariant.runs) ∙ c.in_ok-kept.ensures.run
    ∙ ap Some (sym c.run-run.ensures) in
    let rest = chosen_of threads commands conditions (drop (number + 1) runs) in
    let start = g.W.Write.contents c.args.output.now in
    let old = string_bytes c.args.printer.now.text in
    let all = outcome_texts rows names voices commands 1 count (chosen_of threads commands conditions runs) in
    let here = outcome_texts rows names voices commands (before + 1) count
    (chosen_of threads commands conditions (drop number runs)) in
    let after = outcome_texts rows names voices commands (c.if-is_printed.before + 1) count rest in
    let told = sym c.is_printed.ensures in
    let turns = c.read_outcome.new.reader.run.turns in
    let turns_are = ap (λ (run : EndedRun). run.turns) c.run-run.ensures in
    let same = c.loop-number.same in
    let kept = c.in_ok-kept.kept in
    let least = c.lesser-same.result in
    elim c.if-is_printed.branch [
      | then-is_printed+in_ok-print_outcome w ↦
          let next = chosen_here threads commands conditions runs number run here_is
          (told ∙ w.if-is_printed.true) in
          record {
            few = omega (arith, w.before-is, c.loop-number.invariant.few);
            counted = omega (arith, w.before-is, ap length next, c.loop-number.invariant.counted);
            texts = subst (λ printer. AreTextsOf (text_source program) printer.texts) (sym w.printer-is)
                w.in_ok-print_outcome.ensures.texts;
            tracees = subst (λ printer. IsTextOfStates rows printer.tracees) (sym w.printer-is)
                w.in_ok-print_outcome.ensures.tracees;
            runs = c.read_outcome.ensures.runs ∙ c.loop-number.invariant.runs;
            same = subst (λ n. BeginAlike n (turns_written c.if-is_printed.printer.texts.turns) turns)
                (sym (w.same-is ∙ ap length (w.turns-same.ensures ∙ turns_are)))
                (subst (λ printer. BeginAlike (length turns) (turns_written printer.texts.turns) turns) (sym w.printer-is)
                (all_alike (turns_written w.print_outcome.new.printer.texts.turns) turns
                (w.in_ok-print_outcome.ensures.turns ∙ turns_are)));
            so_far = so_far_as start (g.W.Write.contents w.print_outcome.new.output)
                (g.W.Write.contents c.if-is_printed.output) old all (string_bytes w.print_outcome.new.printer.text)
                (string_bytes c.if-is_printed.printer.text)
                (outcome_texts rows names voices commands (before + 1 + 1) count rest) after
                (ap g.W.Write.contents w.output-is) (ap (λ printer. string_bytes printer.text) w.printer-is)
                (ap (λ n. outcome_texts rows names voices commands (n + 1) count rest) w.before-is)
                (one_more start (g.W.Write.contents c.loop-number.output)
                (g.W.Write.contents w.print_outcome.new.output) old all (string_bytes c.loop-number.printer.text) here
                (outcome_text rows names voices commands (before + 1) count run)
                (outcome_texts rows names voices commands (before + 1 + 1) count rest)
                c.loop-number.invariant.so_far
                (outcomes_more rows names voices commands (before + 1) count _ run rest next)
                (string_bytes w.print_outcome.new.printer.text) w.in_ok-print_outcome.ensures.ok);
          }
      | else-is_printed w ↦
          let gone = chosen_not_here threads commands conditions runs number run here_is
          (told ∙ w.if-is_printed.false) in
          record {
            few = omega (arith, w.before-is, c.loop-number.invariant.few);
            counted = omega (arith, w.before-is, ap length gone, c.loop-number.invariant.counted);
            texts = subst (λ printer. AreTextsOf (text_source program) printer.texts) (sym w.printer-is)
                c.loop-number.invariant.texts;
            tracees = subst (λ printer. IsTextOfStates rows printer.tracees) (sym w.printer-is)
                c.loop-number.invariant.tracees;
            runs = c.read_outcome.ensures.runs ∙ c.loop-number.invariant.runs;
            same = subst (λ n. BeginAlike n (turns_written c.if-is_printed.printer.texts.turns) turns) (sym w.same-is)
                (subst (λ printer. BeginAlike least (turns_written printer.texts.turns) turns) (sym w.printer-is)
                (both_alike least same kept (turns_written c.loop-number.printer.texts.turns)
                c.loop-number.reader.run.turns turns c.lesser-same.ensures.first c.lesser-same.ensures.second
                c.loop-number.invariant.same c.in_ok-kept.ensures.kept));
            so_far = so_far_as start (g.W.Write.contents c.loop-number.output)
                (g.W.Write.contents c.if-is_printed.output) old all (string_bytes c.loop-number.printer.text)
                (string_bytes c.if-is_printed.printer.text) here after (ap g.W.Write.contents w.output-is)
                (ap (λ printer. string_bytes printer.text) w.printer-is)
                (ap (λ n. outcome_texts rows names voices commands (n + 1) count rest) w.before-is
                ∙ ap (λ chosen. outcome_texts rows names voices commands (before + 1) count chosen) (sym gone))
                c.loop-number.invariant.so_far;
          }
    ]

pub returns-in_err-print_outcome-clause-cut_off : goal.returns-in_err-print_outcome-clause-cut_off
returns-in_err-print_outcome-clause-cut_off g c =
    let program = c.args.program.now in
    let threads = length program.commands.now in
    let commands = commands_in program.commands.now in
    let conditions = c.args.printed.now.conditions.now in
    let runs = c.args.printed.now.explored.now.runs in
    let count = c.args.printed.now.count in
    let rows = program.rows.now in
    let names = names_kept program.names.now in
    let voices = program.voices.now in
    let number = c.loop-number.number in
    let before = c.loop-number.before in
    let run = c.run-run.result.now in
    let here_is : slice_get runs number ≡ Some run =
    ap (λ rs. slice_get rs number) (sym c.loop-number.invariant.runs) ∙ c.in_ok-kept.ensures.run
    ∙ ap Some (sym c.run-run.ensures) in
    let rest = chosen_of threads commands conditions (drop (number + 1) runs) in
    let start = g.W.Write.contents c.args.output.now in
    let old = string_bytes c.args.printer.now.text in
    let all = outcome_texts rows names voices commands 1 count (chosen_of threads commands conditions runs) in
    let here = outcome_texts rows names voices commands (before + 1) count
    (chosen_of threads commands conditions (drop number runs)) in
    of_error c.from_residual-in_err-print_outcome.result
    (cut_there start (g.W.Write.contents c.loop-number.output) (g.W.Write.contents c.print_outcome.new.output) old all
    (string_bytes c.loop-number.printer.text) here (outcome_text rows names voices commands (before + 1) count run)
    (outcome_texts rows names voices commands (before + 1 + 1) count rest) c.loop-number.invariant.so_far
    (outcomes_more rows names voices commands (before + 1) count _ run rest
    (chosen_here threads commands conditions runs number run here_is
    (sym c.is_printed.ensures ∙ c.if-is_printed.true))) c.in_err-print_outcome.ensures.cut_off)

pub returns-clause-ok : goal.returns-clause-ok
returns-clause-ok g c =
    let program = c.args.program.now in
    let threads = length program.commands.now in
    let commands = commands_in program.commands.now in
    let conditions = c.args.printed.now.conditions.now in
    let runs = c.args.printed.now.explored.now.runs in
    let count = c.args.printed.now.count in
    let rows = program.rows.now in
    let names = names_kept program.names.now in
    let voices = program.voices.now in
    let number = c.loop-number.number in
    let before = c.loop-number.before in
    at_last (g.W.Write.contents c.args.output.now) (g.W.Write.contents c.loop-number.output)
    (string_bytes c.args.printer.now.text)
    (outcome_texts rows names voices commands 1 count (chosen_of threads commands conditions runs))
    (string_bytes c.loop-number.printer.text)
    (outcome_texts rows names voices commands (before + 1) count
    (chosen_of threads commands conditions (drop number runs))) c.loop-number.invariant.so_far
    (outcomes_over rows names voices commands _ count _
    (chosen_over threads commands conditions runs number
    (omega (arith, c.loop-number-test.false, c.len-number-end.ensures))))
