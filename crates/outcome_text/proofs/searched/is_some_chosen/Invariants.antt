-- Some outcome is chosen where one of those left is.
use Rattle.std.proofs.Common.{◌≡◌, drop, length}
use Rattle.std.specs.List.{list_any}
use Rattle.stop_program.specs.Threads.{commands_in}
use Rattle.outcome_text.specs.Chosen.{is_chosen}
use Rattle.outcome_text.proofs.searched.is_some_chosen.Given as goal

abbrev pub invariant-loop-number : goal.invariant-loop-number
invariant-loop-number l =
    list_any (is_chosen (length l.commands) (commands_in l.commands) l.conditions) (drop l.number l.explored.runs)
    ≡ list_any (is_chosen (length l.commands) (commands_in l.commands) l.conditions) l.explored.runs
