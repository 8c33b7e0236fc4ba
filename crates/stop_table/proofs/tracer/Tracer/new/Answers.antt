-- The invariant holds of a new tracer's handle.
use Rattle.std.specs.Arc.{arc_value}
use Rattle.stop_table.proofs.NewHandles.{is_new_tracer}
use Rattle.stop_table.proofs.tracer.Tracer.new.Goals as goal

pub invariant_of-result : goal.invariant_of-result
invariant_of-result g c = (
  c.requires.table,
  is_new_tracer (arc_value c.args.cells).table.shared.key c.args.seat.me c.args.number c.args.held
      c.requires.roster c.requires.number c.requires.seat c.requires.held,
)
