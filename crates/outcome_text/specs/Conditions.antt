-- When a condition holds where an outcome ends: of the last states of its tracees, and of the threads that wait.
use Rattle.std.specs.Prelude.{ℕ, Bool, not, List, is_some}
use Rattle.std.specs.List.{list_all, list_any}
use Rattle.stop_program.specs.declared.command.ThreadCommand.{ThreadCommand}
use Rattle.stop_program.specs.Program.{Log, command_after, own_turns}
use Rattle.stop_program.specs.Run.{EndedRun}
use Rattle.litmus_files.specs.declared.condition.Sense.{Sense}
use Rattle.litmus_files.specs.declared.condition.Sense.TheVariants.{Is, IsNot}
use Rattle.litmus_files.specs.declared.required.Condition.{Condition}
use Rattle.litmus_files.specs.declared.required.Condition.TheVariants as condition
use Rattle.replay_files.specs.StateName.{has_name}
use Rattle.outcome_text.specs.Waiting.{state_at}

abbrev pub agrees : Sense → (is : Bool) → Bool
agrees Is is = is
agrees IsNot is = not is

-- a thread waits that has a command left
abbrev pub waits_at_end : (commands : ℕ → List ThreadCommand) → Log → (thread : ℕ) → Bool
waits_at_end commands turns thread = is_some (command_after (commands thread) (own_turns thread turns))

-- of any tracee: some one is so, or some one is not
abbrev pub condition_holds : (commands : ℕ → List ThreadCommand) → EndedRun → Condition → Bool
condition_holds commands ending (condition.Tracee row sense named) =
    agrees sense (has_name named (state_at ending.states row))
condition_holds commands ending (condition.SomeTracee sense named) =
    list_any (λ at. agrees sense (has_name named at)) ending.states
condition_holds commands ending (condition.Thread thread sense) =
    agrees sense (waits_at_end commands ending.turns thread)

abbrev pub conditions_hold : (commands : ℕ → List ThreadCommand) → List Condition → EndedRun → Bool
conditions_hold commands conditions ending = list_all (condition_holds commands ending) conditions
