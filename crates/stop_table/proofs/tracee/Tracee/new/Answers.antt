-- The invariant holds of a new tracee's handle.
use Rattle.std.proofs.Common.{subst, sym}
use Rattle.std.specs.Arc.{arc_value}
use Rattle.stop_table.specs.Tracee.{IsTracee}
use Rattle.stop_table.proofs.NewHandles.{is_new_tracee}
use Rattle.stop_table.proofs.tracee.Tracee.new.Goals as goal

pub invariant_of-result : goal.invariant_of-result
invariant_of-result g c = (
  c.requires.table,
  subst (IsTracee (arc_value c.args.cells).table.shared.key c.args.seat.me c.args.row _) (sym c.new.ensures)
      (is_new_tracee (arc_value c.args.cells).table.shared.key c.args.seat.me c.args.row _ c.requires.roster c.requires.row
      c.requires.seat),
)
