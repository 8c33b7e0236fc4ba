-- All threads are started: those of the tracees first, and then those of the workers, which change none of them.
use Rattle.tracer_workers.proofs.threaded.start_all.Goals as goal

pub returns-clause-tracees : goal.returns-clause-tracees
returns-clause-tracees g c = λ started. c.start_tracees.ensures.all c.if-not-start_tracees.false
