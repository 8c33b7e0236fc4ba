-- Entry by entry.
use Rattle.stop_table.specs.View.{actors_of}
use Rattle.tracer_workers.proofs.OwnEntries.{driven_on}
use Rattle.tracer_workers.proofs.ThreadLaws.{driven_meet}
use Rattle.tracer_workers.proofs.laws.what_is_driven_stays_so.Goals as goal

pub returns-clause-later : goal.returns-clause-later
returns-clause-later c plan v h on driven = driven_on (actors_of v) plan v.seen h on driven

pub returns-clause-together : goal.returns-clause-together
returns-clause-together c = driven_meet
