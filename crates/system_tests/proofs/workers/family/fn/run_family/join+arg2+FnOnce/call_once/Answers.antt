-- The closure may be called where what it captured may be shared among threads.
use Rattle.system_tests.proofs.workers.family.fn.run_family.join+arg2+FnOnce.call_once.Goals as goal

pub join+arg2-requires : goal.join+arg2-requires
join+arg2-requires g c =
    let all = c.requires.1.1 in
    let shared = all.0 in (shared.0, (shared.1, (shared.2, (shared.3, (shared, all.1.0)))))
