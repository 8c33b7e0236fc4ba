-- The record goes back in hand with its registers.
use Rattle.std.proofs.Common.{refl}
use Rattle.c_interface.specs.InHand.{IsRegsSet}
use Rattle.c_interface.specs.Regs.{regs_of}
use Rattle.c_interface.proofs.HeldRecord.{held_by}
use Rattle.c_interface.proofs.tracee_memory.tracee_setregs.Goals as goal

pub returns : goal.returns
returns c =
    held_by (IsRegsSet (regs_of c.args.regs.now)) _ _ c.in-Some.held c.record_setregs.new.stopped _ c.in-Some.ensures.0
    (refl, c.record_setregs.ensures)
    (record { tracee = refl; roster = refl; row = refl; births = refl; in_hand = refl })
