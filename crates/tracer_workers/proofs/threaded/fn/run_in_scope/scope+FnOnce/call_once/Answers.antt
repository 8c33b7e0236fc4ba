-- The closure may be called where what it captured may be shared among threads.
use Rattle.tracer_workers.proofs.threaded.fn.run_in_scope.scope+FnOnce.call_once.Goals as goal

pub scope-requires : goal.scope-requires
scope-requires g c =
    let all = c.requires.1.1.1 in
    let shared = all.0 in (
      shared.0,
      (
        shared.1,
        (shared.2, (shared.3, (shared.4, (shared, all.1.0)))),
      ),
    )
