-- An entry comes off the front; after a broken one nothing is left.
use Rattle.std.proofs.Common.{◌∷◌, ◌+◌, ◌-◌, ◌<◌, List, length, map, sym, ap, ◌∙◌, arith}
use Rattle.std.specs.List.{range_with_len}
use Rattle.mem_views.specs.IovecView.{entry_at, until_broken}
use Rattle.mem_views.specs.declared.iovecs.Item.{Item}
use Rattle.mem_views.proofs.Entries.{items_Broken, items_Iov}
use Rattle.mem_views.proofs.iovecs.IovecsIterator.next.Goals as goal
use Rattle.mem_views.proofs.iovecs.IovecsIterator.next.Goals.{in-Iov, in-Broken}

pub returns-clause-steps : goal.returns-clause-steps
returns-clause-steps g c =
    let more : c.self.inside.index < c.self.inside.count = omega arith in
    let f = entry_at c.self.inside.memory.now c.self.inside.addr in
    rw (← c.self.view_is) (elim c.match-item.branch [
      | in-Iov w ↦ rw w.self-is (items_Iov f c.self.inside.index c.self.inside.count w.in-Iov.base w.in-Iov.len more
          (sym c.entry_at-item.ensures ∙ w.in-Iov.is) ∙ ap (λ (item : Item). item ∷ until_broken
          (map f (range_with_len (c.self.inside.index + 1) (c.self.inside.count - (c.self.inside.index + 1)))))
          (sym w.in-Iov.is))
      | in-Broken w ↦ rw w.self-is (items_Broken f c.self.inside.index c.self.inside.count w.in-Broken.field-0 more
          (sym c.entry_at-item.ensures ∙ w.in-Broken.is) ∙ ap (λ (item : Item). item ∷ until_broken
          (map f (range_with_len c.self.inside.count (c.self.inside.count - c.self.inside.count))))
          (sym w.in-Broken.is))
    ])

pub returns-clause-goes : goal.returns-clause-goes
returns-clause-goes g c =
    let long = ap (λ (items : List Item). length items) (returns-clause-steps g c) in
    record { on = λ f. (tt, f, omega arith); keeps = tt; rests = λ f. tt }
