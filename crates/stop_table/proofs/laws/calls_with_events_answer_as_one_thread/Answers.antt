-- The law is a lemma for each kind of event.
use Rattle.stop_table.proofs.Alone.{claim_there, exit_there, publish_there, reap_there, resume_there}
use Rattle.stop_table.proofs.laws.calls_with_events_answer_as_one_thread.Goals as goal

pub returns-clause-publish : goal.returns-clause-publish
returns-clause-publish c = publish_there

pub returns-clause-claim : goal.returns-clause-claim
returns-clause-claim c = claim_there

pub returns-clause-reap : goal.returns-clause-reap
returns-clause-reap c = reap_there

pub returns-clause-resume : goal.returns-clause-resume
returns-clause-resume c = resume_there

pub returns-clause-exit : goal.returns-clause-exit
returns-clause-exit c = exit_there
