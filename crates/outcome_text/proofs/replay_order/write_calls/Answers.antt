-- One call more, and none left.
use Rattle.std.proofs.Common.{◌≡◌, ◌<◌, ◌≤◌, ◌+◌, ◌++◌, ◌∙◌, ℕ, List, ap, drop, get_or, length, map, string_bytes, sym}
use Rattle.std.proofs.lemmas.List.{at_drop_all, drop_more}
use Rattle.stop_history.specs.declared.roster.Row.{Row}
use Rattle.stop_program.specs.declared.group_death.RowCall.{RowCall}
use Rattle.text_lines.specs.Lines.{line_text}
use Rattle.outcome_text.specs.OutcomeOrder.{order_of_call}
use Rattle.replay_files.specs.Spelling.{order_words, orders_text}
use Rattle.outcome_text.proofs.OutcomeLines.{no_piece, one_piece}
use Rattle.outcome_text.proofs.replay_order.write_calls.Goals as goal

one_call_more : (rows : List Row) (calls : List RowCall) (i : ℕ) (d : RowCall) (out new : List ℕ) → i < length calls
    → new ≡ out ++ line_text (order_words rows (order_of_call (get_or calls i d)))
    → new ++ orders_text rows (map order_of_call (drop (i + 1) calls))
    ≡ out ++ orders_text rows (map order_of_call (drop i calls))
one_call_more rows calls i d out new within wrote =
    one_piece out (line_text (order_words rows (order_of_call (get_or calls i d)))) new
    (orders_text rows (map order_of_call (drop (i + 1) calls))) (orders_text rows (map order_of_call (drop i calls))) wrote
    (ap (λ (left : List RowCall). orders_text rows (map order_of_call left)) (drop_more calls i d within))

no_call_left : (rows : List Row) (calls : List RowCall) (i : ℕ) (out : List ℕ) → length calls ≤ i
    → out ++ orders_text rows (map order_of_call (drop i calls)) ≡ out
no_call_left rows calls i out past =
    no_piece out (orders_text rows (map order_of_call (drop i calls)))
    (at_drop_all (λ (left : List RowCall). orders_text rows (map order_of_call left)) calls i past)

pub loop-one-preserved : goal.loop-one-preserved
loop-one-preserved g c =
    one_call_more c.args.rows.now c.args.calls.now c.loop-one.one-index _ (string_bytes c.loop-one.out)
    (string_bytes c.write_order.new.out) c.loop-one-test.true c.in_ok-write_order.ensures
    ∙ c.loop-one.invariant

pub returns : goal.returns
returns g c =
    sym (no_call_left c.args.rows.now c.args.calls.now c.loop-one.one-index (string_bytes c.loop-one.out)
    c.loop-one-test.false)
    ∙ c.loop-one.invariant
