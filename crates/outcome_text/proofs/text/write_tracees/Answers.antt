-- The next tracee has its line.
use Rattle.std.proofs.Common.{◌≡◌, ◌∙◌, ◌++◌, ap, drop, flat_map, length, string_bytes, sym, zip}
use Rattle.std.proofs.lemmas.List.{length_push}
use Rattle.std.proofs.lemmas.Slice.Zip.{zip_end, zip_turn}
use Rattle.std.specs.Iterator.Adapters.{zip_first, zip_second}
use Rattle.std.specs.Slice.Iter.{iter_rest}
use Rattle.outcome_text.specs.OutcomeText.{tracee_line}
use Rattle.outcome_text.proofs.OutcomeLines.{no_piece, tracees_more, tracees_over}
use Rattle.outcome_text.proofs.text.write_tracees.Goals as goal

pub loop-row-preserved : goal.loop-row-preserved
loop-row-preserved g c =
    let rows = c.args.rows.now in
    let states = c.args.states.now in
    let first : iter_rest (zip_first c.into_iter-row-iterator.result) ≡ rows = cc in
    let second : iter_rest (zip_second c.into_iter-row-iterator.result) ≡ states = cc in
    let turn = zip_turn rows states c.loop-row.yielded c.into_iter-row-iterator.result c.loop-row.row-iterator
    c.next.new.self c.next.result first second c.loop-row.yielded_by (c.in-Some.row, c.in-Some.state) c.in-Some.is
    c.next.ensures.steps in
    ap (λ n. string_bytes c.write_tracee.new.out ++ flat_map tracee_line (drop n (zip rows states)))
    (length_push c.loop-row.yielded (c.in-Some.row, c.in-Some.state))
    ∙ tracees_more rows states (length c.loop-row.yielded) c.in-Some.row.now c.in-Some.state.now
    (string_bytes c.loop-row.out) (string_bytes c.write_tracee.new.out) turn.0 turn.1 turn.2 turn.3
    c.in_ok-write_tracee.ensures
    ∙ c.loop-row.invariant

pub returns : goal.returns
returns g c =
    let rows = c.args.rows.now in
    let states = c.args.states.now in
    let first : iter_rest (zip_first c.into_iter-row-iterator.result) ≡ rows = cc in
    let second : iter_rest (zip_second c.into_iter-row-iterator.result) ≡ states = cc in
    let over = zip_end rows states c.loop-row.yielded c.into_iter-row-iterator.result c.loop-row.row-iterator
    c.next.new.self c.next.result first second c.loop-row.yielded_by c.in-None.is c.next.ensures.steps in
    sym (no_piece (string_bytes c.loop-row.out) _ (tracees_over rows states (length c.loop-row.yielded) over))
    ∙ c.loop-row.invariant
