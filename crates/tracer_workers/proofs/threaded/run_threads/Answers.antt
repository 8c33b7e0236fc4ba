-- Each thread was started with what was handed in, and has kept its promise.
use Rattle.std.proofs.Common.{subst}
use Rattle.tracer_workers.specs.Threaded.{HasRun, HasWorked}
use Rattle.tracer_workers.proofs.Zips.{zip_through}
use Rattle.tracer_workers.proofs.threaded.run_threads.Goals as goal

pub returns-clause-back : goal.returns-clause-back
returns-clause-back g c = record {
  tracees = zip_through _ _ _ _ _ _ (c.start_all-are_started.ensures.tracees c.if-not-are_started.false) c.join_tracees.ensures
      (λ s h t given ran.
      subst (λ e. HasRun e s.machine t) given.0 (subst (λ p. HasRun h.promise.tracee.value p t) given.1 ran));
  workers = zip_through _ _ _ _ _ _ (c.start_all-are_started.ensures.workers c.if-not-are_started.false) c.join_workers.ensures
      (λ e h w given done.
      subst (λ t. HasWorked c.args.shared.now.config.now t w.tracer w.kept.pieces.items w.kept.short) given.0
      (subst (λ config. HasWorked config h.promise.tracer.value w.tracer w.kept.pieces.items w.kept.short) given.1 done));
}
