-- The record is put first, and then as many empty slots as there are turns.
use Rattle.std.proofs.Common.{◌≡◌, ◌∷◌, ◌++◌, ◌-◌, ◌∙◌, [], None, Some, ap, arith, replicate}
use Rattle.std.proofs.lemmas.List.{append_assoc, replicate-append-replicate}
use Rattle.stop_table.specs.declared.cells.TheConstants.{PLACES}
use Rattle.stop_table.proofs.opening.put_row.Goals as goal

pub loop-preserved : goal.loop-preserved
loop-preserved g c =
    let old = c.loop.invariant in
    let start = c.push_reserved.new.self.items in
    record {
      items = c.push_reserved-in-loop.ensures.items ∙ ap (λ l. l ++ None ∷ []) old.items
          ∙ append_assoc start (replicate c.loop.counter None) (None ∷ [])
          ∙ ap (λ l. start ++ l) (replicate-append-replicate c.loop.counter 1 None);
      capacity = c.push_reserved-in-loop.ensures.capacity ∙ old.capacity;
    }

pub returns-clause-items : goal.returns-clause-items
returns-clause-items g c =
    let last : c.loop.counter ≡ PLACES - 1 = omega arith in
    c.loop.invariant.items ∙ ap (λ n. c.push_reserved.new.self.items ++ replicate n None) last
    ∙ ap (λ l. l ++ replicate (PLACES - 1) None) c.push_reserved.ensures.items
    ∙ append_assoc c.args.slots.now.items (Some c.args.boxed ∷ []) (replicate (PLACES - 1) None)
