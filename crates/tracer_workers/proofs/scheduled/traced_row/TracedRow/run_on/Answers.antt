-- The tracee runs on, and what it leaves is the row's.
use Rattle.std.proofs.Common.{refl}
use Rattle.tracer_workers.proofs.scheduled.traced_row.TracedRow.run_on.Goals as goal

pub returns : goal.returns
returns g c =
    rw (← c.self.view_is)
    (c.next.new.held, c.next.new.self, c.in_ok-next.ensures.element, c.in_ok-next.ensures.position, refl)
