-- The ends so far are counted, and with those of the outcomes that are left they are all ends.
use Rattle.std.proofs.Common.{◌≡◌, ◌≤◌, ◌++◌, ℕ, List, drop, length, map}
use Rattle.stop_program.specs.Threads.{commands_in}
use Rattle.outcome_text.specs.Chosen.{chosen_of}
use Rattle.litmus_files.specs.LitmusDraft.{names_kept}
use Rattle.outcome_text.specs.OutcomeEnds.{AreTallied, outcome_end}
use Rattle.outcome_text.proofs.ends.end_tallies.Given as goal

abbrev pub invariant-loop-number : goal.invariant-loop-number
invariant-loop-number g l = record {
  so_far : List (List ℕ);
  tallied : AreTallied l.found.tallies.entries l.found.outcomes so_far;
  few : l.found.outcomes ≤ l.number;
  all : so_far
      ++ map (outcome_end l.rows (names_kept l.program.names.now) (commands_in l.commands))
      (chosen_of (length l.commands) (commands_in l.commands) l.conditions (drop l.number l.explored.runs))
      ≡ map (outcome_end l.rows (names_kept l.program.names.now) (commands_in l.commands))
      (chosen_of (length l.commands) (commands_in l.commands) l.conditions l.explored.runs);
}
