-- The tracers and the pieces of the workers so far, none of which was refused memory.
use Rattle.std.proofs.Common.{◌≡◌, ◌++◌, false, map}
use Rattle.std.specs.List.{All, flat_map}
use Rattle.tracer_workers.proofs.threaded.take_apart.Given as goal

abbrev pub invariant-loop-one : goal.invariant-loop-one
invariant-loop-one g l = record {
  tracers : l.tracers.items ≡ l.fn.tracers.items ++ map (λ w. w.tracer) l.yielded;
  whole : All (λ w. w.kept.short ≡ false) l.yielded;
  pieces : l.pieces.items ≡ flat_map (λ w. w.kept.pieces.items) l.yielded;
}
