-- What is written, and the lines of the calls that are left, are those of all calls.
use Rattle.std.proofs.Common.{◌≡◌, ◌++◌, drop, map, string_bytes}
use Rattle.outcome_text.specs.OutcomeOrder.{order_of_call}
use Rattle.replay_files.specs.Spelling.{orders_text}
use Rattle.outcome_text.proofs.replay_order.write_calls.Given as goal

abbrev pub invariant-loop-one : goal.invariant-loop-one
invariant-loop-one g l =
    string_bytes l.out ++ orders_text l.rows (map order_of_call (drop l.one-index l.calls))
    ≡ string_bytes l.fn.out ++ orders_text l.rows (map order_of_call l.calls)
