-- What is written and collected, and the outcomes that are left, are what was collected before and all outcomes.
use Rattle.std.proofs.Common.{◌≡◌, ◌≤◌, ◌+◌, drop, length, string_bytes}
use Rattle.stop_program.specs.Threads.{commands_in}
use Rattle.stop_explorer.specs.OutcomeReader.{BeginAlike}
use Rattle.outcome_text.specs.Chosen.{chosen_of}
use Rattle.litmus_files.specs.LitmusDraft.{names_kept}
use Rattle.outcome_text.specs.OutcomeText.{IsTextOfStates, outcome_texts}
use Rattle.outcome_text.specs.TurnTexts.{AreTextsOf, text_source, turns_written}
use Rattle.outcome_text.proofs.Printing.{IsSoFar}
use Rattle.outcome_text.proofs.printed.print_chosen.Given as goal

abbrev pub invariant-loop-number : goal.invariant-loop-number
invariant-loop-number g l = record {
  few : l.before ≤ l.number;
  counted : l.before
      + length (chosen_of (length l.program.commands.now) (commands_in l.program.commands.now) l.printed.conditions.now
      (drop l.number l.printed.explored.now.runs))
      ≡ l.printed.count;
  texts : AreTextsOf (text_source l.program) l.printer.texts;
  tracees : IsTextOfStates l.program.rows.now l.printer.tracees;
  runs : l.reader.runs ≡ l.printed.explored.now.runs;
  same : BeginAlike l.same (turns_written l.printer.texts.turns) l.reader.run.turns;
  so_far : IsSoFar (g.W.Write.contents l.fn.output) (g.W.Write.contents l.output) (string_bytes l.fn.printer.text)
      (outcome_texts l.program.rows.now (names_kept l.program.names.now) l.program.voices.now
      (commands_in l.program.commands.now) 1 l.printed.count
      (chosen_of (length l.program.commands.now) (commands_in l.program.commands.now) l.printed.conditions.now
      l.printed.explored.now.runs))
      (string_bytes l.printer.text)
      (outcome_texts l.program.rows.now (names_kept l.program.names.now) l.program.voices.now
      (commands_in l.program.commands.now) (l.before + 1) l.printed.count
      (chosen_of (length l.program.commands.now) (commands_in l.program.commands.now) l.printed.conditions.now
      (drop l.number l.printed.explored.now.runs)));
}
