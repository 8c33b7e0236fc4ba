-- A tracee asks whether its row is born.
use Rattle.std.proofs.Common.{◌∙◌}
use Rattle.std.specs.Arc.{arc_value}
use Rattle.stop_table.proofs.Tracees.{tracee_looked}
use Rattle.stop_table.proofs.tracee.Tracee.start.Goals as goal

pub invariant_of-self : goal.invariant_of-self
invariant_of-self g c =
    let x = c.self.inside in
    let i = c.self.invariant in
    let e = c.start_of.ensures.seat in (
      e.0.0 ∙ i.0,
      tracee_looked (arc_value x.cells).table.shared.key x.seat.me c.start_of.new.seat.me x.row x.word x.holder i.1 e.2
          e.1,
    )
