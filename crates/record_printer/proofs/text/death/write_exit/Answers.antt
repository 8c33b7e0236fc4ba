use Rattle.std.specs.Prelude.{codes}
use Rattle.record_printer.proofs.Joined.{joined_two}
use Rattle.record_printer.proofs.text.death.write_exit.Goals as goal

pub returns : goal.returns
returns g c =
    joined_two _ _ _ (codes " +++ exited with ") _ c.in_ok-extend_from_slice.ensures.items
    (rw (← c.format.ensures.text, ← c.as_bytes.ensures.value) c.in_ok-extend_from_slice-2.ensures.items)
