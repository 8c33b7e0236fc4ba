-- The replies so far, and the history that the World has come to.
use Rattle.std.proofs.Common.{◌≡◌, ◌++◌, drop, string_bytes}
use Rattle.stop_board.specs.World.{Moment, StandsAt}
use Rattle.replay_files.specs.Replies.{replies}
use Rattle.replay_files.proofs.replies.write_replies.Given as goal

-- the text so far and the replies to the commands left are those to all, at the history so far
abbrev pub invariant-loop-order : goal.invariant-loop-order
invariant-loop-order g l = record {
  rows : l.rows ≡ l.world.rows;
  tracers : l.world.tracers ≡ l.fn.world.tracers;
  so_far : (start : Moment) → StandsAt l.fn.world start
      → (m : Moment) × StandsAt l.world m
      × (string_bytes l.out ++ replies l.rows m.history (drop l.order-index l.orders) ≡ string_bytes l.fn.out
      ++ replies l.rows start.history l.orders);
}
