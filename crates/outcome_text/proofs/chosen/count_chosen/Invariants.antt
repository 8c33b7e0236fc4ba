-- Those so far and those left are all.
use Rattle.std.proofs.Common.{◌≡◌, ◌≤◌, ◌+◌, drop, length}
use Rattle.stop_program.specs.Threads.{commands_in}
use Rattle.outcome_text.specs.Chosen.{chosen_of}
use Rattle.outcome_text.proofs.chosen.count_chosen.Given as goal

abbrev pub invariant-loop-number : goal.invariant-loop-number
invariant-loop-number g l = record {
  few : l.count ≤ l.number;
  all : l.count
      + length (chosen_of (length l.commands) (commands_in l.commands) l.conditions (drop l.number l.explored.runs))
      ≡ length (chosen_of (length l.commands) (commands_in l.commands) l.conditions l.explored.runs);
}
