-- The record goes back in hand, whether the page was mapped or not.
use Rattle.std.proofs.Common.{refl}
use Rattle.c_interface.specs.InHand.{IsMappingOf}
use Rattle.c_interface.proofs.HeldRecord.{held_by}
use Rattle.c_interface.proofs.tracee_memory.tracee_map.Goals as goal

pub returns : goal.returns
returns c =
    let call = c.record_map-done in
    held_by (IsMappingOf c.args.addr) _ _ c.in-Some.held call.new.stopped call.result c.in-Some.ensures.0 call.ensures
    (record { tracee = refl; roster = refl; row = refl; births = refl; in_hand = refl })
