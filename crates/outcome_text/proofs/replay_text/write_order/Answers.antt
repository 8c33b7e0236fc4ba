-- The words of the call are those of the command.
use Rattle.std.proofs.Common.{decimal}
use Rattle.stop_history.specs.Roster.{row_at}
use Rattle.outcome_text.proofs.WordsWritten.{line_written}
use Rattle.outcome_text.proofs.replay_text.write_order.Goals as goal

pub returns : goal.returns
returns g c =
    let one = c.args.one.now in
    line_written _ _ _ _ _ (c.replayed.ensures (decimal (row_at c.args.rows.now one.row).tid))
    c.in_ok-write_call.ensures c.in_ok-push_str.ensures.bytes
