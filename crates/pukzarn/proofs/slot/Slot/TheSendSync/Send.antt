-- A slot may go to another thread, since a box of what it holds may.
use Rattle.std.proofs.Common.{[]}
use Rattle.std.specs.Prelude.{Option, None, Some}
use base.Shift.{Keyless}
use denote.RawPtr.{Ptr}
use denote.Builtin.{RawPtr}
use denote.Param.Send.{IsSend, owning_send, sendable}
use Rattle.std.proofs.Crossing.{Box-send}
use Rattle.pukzarn.specs.Slot.{slot_owns, heap}
use Rattle.pukzarn.specs.contracts.slot.Slot.{the_row, the_type}
use Rattle.pukzarn.proofs.Slots.{V}
use Rattle.pukzarn.proofs.handle_value.HandleValue.TheSendSync as end

anywhere : (p : Ptr) (held : Option V.Denot) → Keyless (slot_owns V p held)
anywhere p None = tt
anywhere p (Some x) = ((Box-send V end.the_send).owned (record { ptr = p; alloc = heap; value = x }) []).1

pub send : IsSend the_row
send =
    let pointer : IsSend RawPtr = search sendable in
    owning_send the_type (pointer, tt) (λ d. anywhere d.at d.value) (λ k x w. tt)
