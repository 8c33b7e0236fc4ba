-- As many rows are held as the history says.
use Rattle.std.proofs.Common.{◌≡◌, ap, arith, length}
use Rattle.std.specs.Arc.{arc_value}
use Rattle.stop_table.specs.Tracer.{TracerHandle, held_rows}
use Rattle.stop_table.proofs.HeldRows.{held_count, held_few}
use Rattle.stop_table.proofs.tracer.Tracer.held.Goals as goal

pub overflow_cast-result : goal.overflow_cast-result
overflow_cast-result g c =
    let t = c.self.inside in
    let few = held_few (arc_value t.cells).table.shared.key t.seat.me t.number t.held c.self.invariant.1 in
    omega (arith, c.len.ensures)

pub returns : goal.returns
returns g c =
    let t = c.self.inside in
    let count = held_count (arc_value t.cells).table.shared.key t.seat.me t.number t.held c.self.invariant.1 in
    let same : length (held_rows t.seat.me.0) ≡ length (held_rows c.args.self.now.view) =
    ap (λ (e : TracerHandle). length (held_rows e.view)) c.self.view_is in
    omega (arith, c.len.ensures)
