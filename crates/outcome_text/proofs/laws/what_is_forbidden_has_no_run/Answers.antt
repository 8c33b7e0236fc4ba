-- A run in which all replies came true is a run with replies, and if the conditions held at its end, all could be met.
use Rattle.std.proofs.Common.{◌≡◌, false, inl, inr, length, true}
use Rattle.std.proofs.lemmas.Bool.{cases_Bool}
use Rattle.stop_program.specs.Run.{EndedRun, ended_run}
use Rattle.outcome_text.specs.Chosen.{have_come_true}
use Rattle.outcome_text.specs.Conditions.{conditions_hold}
use Rattle.outcome_text.specs.Searched.{all_required, commands_with}
use Rattle.litmus_files.specs.Required.{conditions_with}
use Rattle.outcome_text.proofs.CameTrue.{chosen_by, true_came}
use Rattle.outcome_text.proofs.laws.what_is_forbidden_has_no_run.Goals as goal

pub returns : goal.returns
returns c = λ content unmet run last is_run answered came.
    let all = all_required content in
    let commands = commands_with content all in
    let conditions = conditions_with all content.conditions in
    let ending : EndedRun = ended_run content.rows run last in
    let replies : have_come_true (length content.names) commands run ≡ true =
    true_came (length content.names) commands run came in
    elim (cases_Bool (conditions_hold commands conditions ending)) as (λ _. conditions_hold commands conditions ending ≡ false) [
      | inl hold ↦ absurd (unmet (record {
        run = run;
        last = last;
        is_run = c.replies_choose_runs.ensures.all content.rows commands run last is_run answered;
        met = chosen_by (length content.names) commands conditions ending replies hold;
      }))
      | inr fail ↦ fail
    ]
