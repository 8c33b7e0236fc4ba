-- The threads have left their handles free.
use Rattle.std.proofs.Common.{subst}
use Rattle.std.specs.Option.{IfSome}
use Rattle.tracer_workers.specs.Gathering.{IsFreeTracer}
use Rattle.system_tests.proofs.workers.family.run_family.Goals as goal

pub returns : goal.returns
returns g c =
    let free = c.requires.free in
    let rows = c.args.roster.now in (
      free.0,
      subst (λ served. IfSome served (λ s. IsFreeTracer free.0 rows s.0)) c.in_ok-tracer.was
          (c.join-root.ensures.second free.0 rows free.1),
      c.join-root.ensures.first.0 free.0 rows free.2,
      c.join-root.ensures.first.1 free.0 rows free.3,
    )
