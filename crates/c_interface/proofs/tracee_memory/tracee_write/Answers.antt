-- The record goes back in hand, whether the bytes were stored or not.
use Rattle.std.proofs.Common.{refl}
use Rattle.c_interface.specs.InHand.{IsWriteOf}
use Rattle.c_interface.proofs.HeldRecord.{held_by}
use Rattle.c_interface.proofs.tracee_memory.tracee_write.Goals as goal

pub returns : goal.returns
returns c =
    let call = c.record_write-done in
    held_by (IsWriteOf c.args.addr c.args.bytes.now) _ _ c.in-Some.held call.new.stopped call.result c.in-Some.ensures.0
    call.ensures (record { tracee = refl; roster = refl; row = refl; births = refl; in_hand = refl })
