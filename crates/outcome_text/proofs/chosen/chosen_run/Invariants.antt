-- Among those left it has the number less those so far.
use Rattle.std.proofs.Common.{◌≡◌, ◌≤◌, ◌-◌, drop, length}
use Rattle.stop_program.specs.Threads.{commands_in}
use Rattle.outcome_text.specs.Chosen.{chosen_of, ending_numbered}
use Rattle.outcome_text.proofs.chosen.chosen_run.Given as goal

abbrev pub invariant-loop-at : goal.invariant-loop-at
invariant-loop-at g l = record {
  few : l.count ≤ l.at;
  found : ending_numbered (l.number - l.count)
      (chosen_of (length l.commands) (commands_in l.commands) l.conditions (drop l.at l.explored.runs))
      ≡ ending_numbered l.number (chosen_of (length l.commands) (commands_in l.commands) l.conditions l.explored.runs);
}
