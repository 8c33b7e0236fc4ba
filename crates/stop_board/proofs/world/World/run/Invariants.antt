-- A run up to a turn: the replies so far, and the moment that they came to.
use Rattle.std.proofs.Common.{◌≡◌, ◌≤◌, drop, length}
use Rattle.std.specs.Vec.{vec_capacity}
use Rattle.stop_board.specs.World.{Moment, StandsAt}
use Rattle.stop_board.proofs.Runs.{IsSoFar}
use Rattle.stop_board.proofs.world.World.run.Given as goal

-- there is room for the replies left, and the World stands where the turns so far come to
abbrev pub invariant-loop-turn : goal.invariant-loop-turn
invariant-loop-turn g l = record {
  room : length l.turns ≤ vec_capacity l.replies;
  rows : l.self.rows ≡ l.fn.self.rows;
  tracers : l.self.tracers ≡ l.fn.self.tracers;
  told : length l.replies.items ≡ l.turn-index;
  so_far : (start : Moment) → StandsAt l.fn.self start → (m : Moment) × StandsAt l.self m
      × IsSoFar l.fn.self.rows l.fn.self.tracers start l.turns m (drop l.turn-index l.turns) l.replies.items;
}
