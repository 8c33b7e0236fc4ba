-- The opening table meets the rule.
use Rattle.std.proofs.Common.{◌≡◌, ◌+◌, ◌∙◌, ap, length, replicate, sym}
use Rattle.std.proofs.lemmas.List.{length-replicate}
use Rattle.stop_table.specs.Place.{place}
use Rattle.stop_table.proofs.OpeningTable.{opens, slots_long}
use Rattle.stop_table.proofs.opening.share.Goals as goal

pub new-requires : goal.new-requires
new-requires g c =
    let rows = c.in-Ok.roster in
    let zeros : c.in_ok-words.words.items ≡ replicate (place (length rows) + 1) 0 =
    rw (← c.rows.ensures.rows) (c.in_ok-words.ensures.items_if_clones_equal (λ y same. same)) in
    opens rows c.as_slice.result.now c.in_ok-slots.slots.items c.rows.ensures.roster
    (rw c.as_slice.ensures.value zeros) c.in_ok-slots.ensures

pub invariant_of-new : goal.invariant_of-new
invariant_of-new g c =
    let rows = c.in-Ok.roster in
    let zeros : c.in_ok-words.words.items ≡ replicate (place (length rows) + 1) 0 =
    rw (← c.rows.ensures.rows) (c.in_ok-words.ensures.items_if_clones_equal (λ y same. same)) in
    let made = c.in-Ok-new.ensures.ok in
    record {
      same = made.5;
      sized = (
        made.0 ∙ ap length (c.as_slice.ensures.value ∙ zeros) ∙ length-replicate (place (length rows) + 1) 0
            ∙ ap (λ k. place (length k) + 1) (sym made.5),
        made.1 ∙ ap length c.in_ok-slots.ensures ∙ slots_long rows ∙ ap (λ k. place (length k)) (sym made.5),
      );
    }
