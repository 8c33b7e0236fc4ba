-- The run of the calls, in which all replies came true, has all that the file requires.
use Rattle.std.proofs.Common.{length, map}
use Rattle.stop_program.specs.CalledAt.{turn_of}
use Rattle.stop_program.specs.Run.{EndedRun, ended_run}
use Rattle.outcome_text.specs.Searched.{all_required, commands_with}
use Rattle.litmus_files.specs.Required.{conditions_with}
use Rattle.outcome_text.proofs.CameTrue.{chosen_by, true_came}
use Rattle.outcome_text.proofs.laws.what_calls_did_is_not_forbidden.Goals as goal

pub returns : goal.returns
returns c = λ content h calls called made hold.
    let all = all_required content in
    let commands = commands_with content all in
    let conditions = conditions_with all content.conditions in
    let one = c.calls_at_points_are_a_run.ensures.run content.rows h calls called commands made in
    let run = map turn_of one.0 in
    let ending : EndedRun = ended_run content.rows run h in
    record {
      run = run;
      last = h;
      is_run = one.1.is_run;
      met = chosen_by (length content.names) commands conditions ending
          (true_came (length content.names) commands run one.1.replies) (hold one.0 one.1);
    }
