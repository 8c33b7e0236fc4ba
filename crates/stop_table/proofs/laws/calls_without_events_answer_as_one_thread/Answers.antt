-- The law is four lemmas on what is shown of a row.
use Rattle.stop_table.proofs.Alone.{claim_shown, held_back_alone, not_running_shown, runs_until_own}
use Rattle.stop_table.proofs.laws.calls_without_events_answer_as_one_thread.Goals as goal

pub returns-clause-claim : goal.returns-clause-claim
returns-clause-claim c = claim_shown

pub returns-clause-not_running : goal.returns-clause-not_running
returns-clause-not_running c = not_running_shown

pub returns-clause-held_back : goal.returns-clause-held_back
returns-clause-held_back c = held_back_alone

pub returns-clause-runs : goal.returns-clause-runs
returns-clause-runs c = runs_until_own
