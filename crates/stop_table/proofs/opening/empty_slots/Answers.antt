-- Each turn puts the slots of one row more.
use Rattle.std.proofs.Common.{◌<◌, ◌++◌, ◌∙◌, ap, arith, get_or, length, sym, take}
use Rattle.std.proofs.lemmas.List.{length-append, take_more}
use Rattle.stop_history.specs.Roster.{nobody}
use Rattle.stop_table.specs.Opening.{empty_slots, slots_with}
use Rattle.stop_table.proofs.OpeningTable.{slots_more, slots_wide}
use Rattle.stop_table.proofs.opening.empty_slots.Goals as goal

pub loop-row-preserved : goal.loop-row-preserved
loop-row-preserved g c =
    let old = c.loop-row.invariant in
    let rows = c.rows-rows.result.now in
    let i = c.loop-row.row-index in
    let low : i < length rows = omega arith in
    let put = c.put_row.ensures.items in
    let more = ap length put ∙ length-append c.loop-row.slots.items (slots_with c.in_ok-boxed.boxed) in
    let wide = slots_wide c.in_ok-boxed.boxed in
    let same = c.put_row.ensures.capacity in
    record {
      items = put
          ∙ (λ j. old.items j ++ slots_with ((c.in_ok-boxed.ensures ∙ c.empty.ensures) j))
          ∙ sym (slots_more (take i rows) (get_or rows i nobody))
          ∙ ap empty_slots (sym (take_more rows i nobody low));
      len = omega arith;
      room = omega arith;
    }
