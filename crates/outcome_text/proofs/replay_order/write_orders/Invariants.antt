-- What is written, and the orders of the turns that are left, are all orders; and the board is where the turns so far
-- come to.
use Rattle.std.proofs.Common.{◌≡◌, ◌++◌, [], drop, string_bytes, take}
use Rattle.stop_board.specs.Board.{StandsAfter}
use Rattle.stop_program.specs.Meaning.{history_from}
use Rattle.stop_program.specs.Threads.{commands_in}
use Rattle.outcome_text.specs.OutcomeOrder.{orders_after, orders_of}
use Rattle.replay_files.specs.Spelling.{orders_text}
use Rattle.outcome_text.proofs.replay_order.write_orders.Given as goal

abbrev pub invariant-loop-i : goal.invariant-loop-i
invariant-loop-i g l =
    let commands = commands_in l.commands in (
    string_bytes l.out
    ++ orders_text l.roster (orders_after l.roster commands (take l.i l.turns) (drop l.i l.turns))
    ≡ string_bytes l.fn.out ++ orders_text l.roster (orders_of l.roster commands l.turns)
    )
    × (l.before.rows ≡ l.roster)
    × (l.after.rows ≡ l.roster)
    × StandsAfter l.before (history_from l.roster commands [] [] (take l.i l.turns))
