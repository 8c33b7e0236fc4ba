use Rattle.std.specs.Prelude.{codes}
use Rattle.record_printer.proofs.Joined.{joined_three}
use Rattle.record_printer.proofs.text.death.write_kill.Goals as goal

pub returns : goal.returns
returns g c =
    joined_three _ _ _ _ (codes " +++ killed by ") _ _ c.in_ok-extend_from_slice.ensures.items
    c.in_ok-write_signal.ensures c.in_ok-write_core.ensures
