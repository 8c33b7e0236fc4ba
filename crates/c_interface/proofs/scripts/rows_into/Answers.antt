-- The rows are copied to the end of the buffer, or to the last one.
use Rattle.std.proofs.Common.{◌∙◌, ◌<◌, ap, arith, length, min, set}
use Rattle.c_interface.specs.Opening.{ids_of_row}
use Rattle.c_interface.proofs.Lists.{copied_all, copied_more}
use Rattle.c_interface.proofs.scripts.rows_into.Goals as goal

pub loop-place-preserved : goal.loop-place-preserved
loop-place-preserved c =
    let room : c.loop-place.place < min (length c.args.to.now) (length c.args.rows.now) =
    omega (arith, c.loop-place-test.true, c.min-room.ensures) in
    ap (λ rows. set rows c.loop-place.place c.of.result) c.loop-place.invariant
    ∙ ap (set _ c.loop-place.place) c.of.ensures
    ∙ copied_more ids_of_row c.args.rows.now c.args.to.now c.loop-place.place _ (omega (arith, room))
    (omega (arith, room))

pub returns-clause-rows : goal.returns-clause-rows
returns-clause-rows c =
    c.loop-place.invariant
    ∙ copied_all ids_of_row c.args.rows.now c.args.to.now c.loop-place.place
    (omega (arith, c.loop-place-test.false, c.loop-place.auto.place-end, c.min-room.ensures))
