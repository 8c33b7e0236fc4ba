-- The tracers that were taken off stand in the order in which they came off, and none was that is wanted.
use Rattle.std.proofs.Common.{◌≡◌, ◌≤◌, ◌+◌, ◌++◌, min, reverse}
use Rattle.std.specs.Vec.{vec_capacity, vec_len}
use Rattle.stop_history.specs.declared.limits.TheConstants.{TRACERS}
use Rattle.tracer_workers.proofs.threaded.split_spare.Given as goal

abbrev pub invariant-loop-tracers : goal.invariant-loop-tracers
invariant-loop-tracers g l = record {
  all : l.fn.tracers.items ≡ l.tracers.items ++ reverse l.spare.items;
  least : min (vec_len l.fn.tracers) l.fn.workers ≤ vec_len l.tracers;
  most : vec_len l.tracers ≤ vec_len l.fn.tracers;
  few : vec_len l.spare + vec_len l.tracers ≤ TRACERS;
  room : TRACERS ≤ vec_capacity l.spare;
}

abbrev pub decreases-loop-tracers : goal.decreases-loop-tracers
decreases-loop-tracers g l = vec_len l.tracers
