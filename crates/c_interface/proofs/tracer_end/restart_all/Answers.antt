-- No row is claimed once each was restarted.
use Rattle.std.proofs.Common.{length, arith}
use Rattle.stop_table.specs.Tracer.{is_held}
use Rattle.c_interface.proofs.Lists.{none_pass}
use Rattle.c_interface.proofs.tracer_end.restart_all.Goals as goal

pub returns : goal.returns
returns c =
    none_pass (is_held c.loop-row.calls.view) 0 (length c.loop-row.calls.view.roster)
    (λ k low high.
    c.loop-row.invariant.freed k
    (omega (arith, high, c.loop-row.invariant.rows, c.rows-row-end.ensures, c.loop-row-test.false)))
