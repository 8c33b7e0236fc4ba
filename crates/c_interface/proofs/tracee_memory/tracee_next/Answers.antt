-- The record goes back in hand, with the script's stop or as it was.
use Rattle.std.proofs.Common.{refl}
use Rattle.c_interface.proofs.HeldRecord.{next_by}
use Rattle.c_interface.proofs.tracee_memory.tracee_next.Goals as goal

pub returns : goal.returns
returns c =
    next_by _ _ _ _ c.in-Some.held c.own_step-step.new.stopped _ c.in-Some.ensures.0 c.own_step-step.ensures
    (record { tracee = refl; roster = refl; row = refl; births = refl; in_hand = refl })
