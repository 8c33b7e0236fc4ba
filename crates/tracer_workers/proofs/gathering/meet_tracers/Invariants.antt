-- The handle has taken in those that it has met so far.
use Rattle.std.proofs.Common.{◌≡◌}
use Rattle.std.specs.List.{All}
use Rattle.tracer_workers.specs.Gathering.{TakesIn}
use Rattle.tracer_workers.proofs.gathering.meet_tracers.Given as goal

abbrev pub invariant-loop-other : goal.invariant-loop-other
invariant-loop-other g l = record {
  table : (l.tracer.table_id ≡ l.initial.tracer.table_id) × (l.tracer.view.roster ≡ l.initial.tracer.view.roster);
  first : TakesIn l.initial.tracer.view l.tracer.view;
  others : All (λ e. TakesIn e.view l.tracer.view) l.yielded;
}
