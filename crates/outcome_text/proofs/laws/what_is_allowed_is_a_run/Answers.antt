-- The threads of a file leave loops forward, so its replies choose among the runs of its program without them.
use Rattle.std.proofs.Common.{[], ◌≡◌, ◌≤◌, length, ℕ}
use Rattle.stop_program.specs.Run.{EndedRun, ended_run}
use Rattle.stop_program.proofs.Commands.{no_commands}
use Rattle.outcome_text.specs.Searched.{all_required, commands_with}
use Rattle.litmus_files.specs.Required.{conditions_with, program_with}
use Rattle.outcome_text.proofs.CameTrue.{came_true, chosen_parts}
use Rattle.litmus_files.proofs.LitmusForward.{forward_with}
use Rattle.litmus_files.proofs.LitmusPlaces.{known_by_text}
use Rattle.outcome_text.proofs.Unmet.{threads_with}
use Rattle.outcome_text.proofs.laws.what_is_allowed_is_a_run.Goals as goal

pub returns-clause-run : goal.returns-clause-run
returns-clause-run c = λ text content read run last is_run came.
    let all = all_required content in
    c.replies_choose_runs.ensures.chosen content.rows (commands_with content all)
    (forward_with all content.lines (known_by_text text content read).forward) run last is_run came

pub returns-clause-chosen : goal.returns-clause-chosen
returns-clause-chosen c = λ text content read run last chosen.
    let all = all_required content in
    let threads = length content.names in
    let commands = commands_with content all in
    let conditions = conditions_with all content.conditions in
    let ending : EndedRun = ended_run content.rows run last in
    let past : (thread : ℕ) → threads ≤ thread → commands thread ≡ [] =
    no_commands threads (program_with all content.lines)
    (threads_with all threads content.lines (known_by_text text content read).threads) in
    let both = chosen_parts threads commands conditions ending chosen in
    (came_true threads commands past run both.0, both.1)
