-- A new World represents the empty history, and the replies begin there.
use Rattle.std.proofs.Common.{◌∙◌, ◌++◌, [], ap}
use Rattle.stop_board.specs.World.{first_moment}
use Rattle.replay_files.specs.Replies.{replies}
use Rattle.replay_files.proofs.replay.run.Goals as goal

pub returns : goal.returns
returns g c =
    rw c.into_bytes.ensures.value (
    c.in_ok-write_replies.ensures first_moment c.in_ok-world.ensures.stands
    ∙ ap (λ text. text ++ replies c.rows.result.now [] c.args.orders.now) c.in_ok-out.ensures.bytes
    ∙ ap (λ rows. replies rows [] c.args.orders.now) c.rows.ensures.rows)
