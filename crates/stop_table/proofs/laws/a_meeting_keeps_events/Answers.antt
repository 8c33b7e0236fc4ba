-- What a merged handle has seen.
use Rattle.stop_table.proofs.Own.{actors_of_both, claims_kept, left_events, right_events}
use Rattle.stop_table.proofs.laws.a_meeting_keeps_events.Goals as goal

pub returns-clause-actors : goal.returns-clause-actors
returns-clause-actors c = actors_of_both

pub returns-clause-first : goal.returns-clause-first
returns-clause-first c = left_events

pub returns-clause-second : goal.returns-clause-second
returns-clause-second c = right_events

pub returns-clause-claims : goal.returns-clause-claims
returns-clause-claims c = claims_kept
