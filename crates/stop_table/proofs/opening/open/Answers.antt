-- The handles are those of the table's rows, which are the roster's.
use Rattle.std.proofs.Common.{◌≡◌, List, subst}
use Rattle.std.specs.Arc.{arc_value}
use Rattle.stop_history.specs.declared.roster.Row.{Row}
use Rattle.stop_table.specs.Opening.{AreTracees, AreTracers}
use Rattle.stop_table.proofs.opening.open.Goals as goal

pub returns-clause-ok : goal.returns-clause-ok
returns-clause-ok g c =
    let shared = (arc_value c.in_ok-cells.cells).table.shared in
    let same : shared.key ≡ c.args.roster.now = c.in_ok-cells.ensures.1 in
    let tracees = c.in_ok-tracees.ensures.handles in
    let tracers = c.in_ok-tracers.ensures in (
      shared.table_id,
      rw (← same) tracees.0,
      tracers.0,
      subst (λ (rows : List Row). AreTracees shared.table_id rows c.in_ok-tracees.tracees.items) same tracees.1,
      subst (λ (rows : List Row). AreTracers shared.table_id rows c.in_ok-tracers.tracers.items) same tracers.1,
    )
