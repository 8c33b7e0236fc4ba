-- The next tracee has its word.
use Rattle.std.proofs.Common.{◌≡◌, ◌∙◌, ◌+◌, ◌++◌, ap, append-nil, arith, drop, length, map, string_bytes, sym, zip}
use Rattle.std.proofs.lemmas.List.{at_drop_all, length_push}
use Rattle.std.proofs.lemmas.Slice.Zip.{length-zip, zip_end, zip_turn}
use Rattle.std.specs.Iterator.Adapters.{zip_first, zip_second}
use Rattle.std.specs.Slice.Iter.{iter_rest}
use Rattle.outcome_text.specs.OutcomeEnds.{last_state}
use Rattle.outcome_text.proofs.EndWords.{mapped_push, states_more}
use Rattle.outcome_text.proofs.ends.each_state.Goals as goal

pub loop-row-preserved : goal.loop-row-preserved
loop-row-preserved g c =
    let rows = c.args.rows.now in
    let states = c.args.states.now in
    let first : iter_rest (zip_first c.into_iter-row-iterator.result) ≡ rows = cc in
    let second : iter_rest (zip_second c.into_iter-row-iterator.result) ≡ states = cc in
    let turn = zip_turn rows states c.loop-row.yielded c.into_iter-row-iterator.result c.loop-row.row-iterator
    c.next.new.self c.next.result first second c.loop-row.yielded_by (c.in-Some.row, c.in-Some.state) c.in-Some.is
    c.next.ensures.steps in
    let n = length c.loop-row.yielded in
    ap (λ k. map string_bytes c.push.new.self.items ++ map last_state (drop k (zip rows states)))
    (length_push c.loop-row.yielded (c.in-Some.row, c.in-Some.state))
    ∙ mapped_push string_bytes c.loop-row.words.items c.push.new.self.items c.in_ok-last_state.field-0
    (last_state (c.in-Some.row.now, c.in-Some.state.now)) (map last_state (drop (n + 1) (zip rows states)))
    c.in_ok-push.ensures.items c.in_ok-last_state.ensures
    ∙ ap (λ left. map string_bytes c.loop-row.words.items ++ left)
    (sym (states_more rows states n c.in-Some.row.now c.in-Some.state.now turn.0 turn.1 turn.2 turn.3))
    ∙ c.loop-row.invariant

pub returns : goal.returns
returns g c =
    let rows = c.args.rows.now in
    let states = c.args.states.now in
    let first : iter_rest (zip_first c.into_iter-row-iterator.result) ≡ rows = cc in
    let second : iter_rest (zip_second c.into_iter-row-iterator.result) ≡ states = cc in
    let over = zip_end rows states c.loop-row.yielded c.into_iter-row-iterator.result c.loop-row.row-iterator
    c.next.new.self c.next.result first second c.loop-row.yielded_by c.in-None.is c.next.ensures.steps in
    let none = at_drop_all (λ ts. map last_state ts) (zip rows states) (length c.loop-row.yielded)
    (omega (arith, length-zip rows states, over)) in
    sym (ap (λ left. map string_bytes c.loop-row.words.items ++ left) none
    ∙ append-nil (map string_bytes c.loop-row.words.items))
    ∙ c.loop-row.invariant
