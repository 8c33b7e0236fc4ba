-- A call on the record in hand, and the next step of a script.
use Rattle.std.proofs.Common.{◌≡◌, Result, sym, subst}
use Rattle.trace_record.specs.Content.{Content}
use Rattle.trace_script.specs.StopTrace.{Position}
use Rattle.c_interface.specs.InHand.{HasInHand, IsHeldFrom, IsHeldOf, IsNextFrom, IsNextOf, taken_over}
use Rattle.c_interface.specs.Scripts.{IsNextBy}
use Rattle.c_interface.specs.declared.error.Error.{Error}
use Rattle.c_interface.specs.declared.hand.Hand.{Hand}
use Rattle.c_interface.specs.declared.hand.Hand.TheVariants as hand
use Rattle.c_interface.specs.declared.hand.InHand.{InHand}
use Rattle.c_interface.specs.declared.scripts.NextStep.{NextStep}
use Rattle.c_interface.specs.declared.tracee_end.TraceeEnd.{TraceeEnd}

pub held_by : {T : Type 0} (call : Content → Content → Result T Error → Type 0) (a b : TraceeEnd) (held : InHand)
    (content : Content) (result : Result T Error) → a.hand ≡ hand.Taken held → call held.stopped content result
    → HasInHand a b held content → IsHeldOf call a b result
held_by call a b held content result taken made holds =
    subst (λ (h : Hand). IsHeldFrom call h a b result) (sym taken) (content, made, holds)

pub next_by : (a b : TraceeEnd) (p q : Position) (held : InHand) (content : Content) (result : Result NextStep Error)
    → a.hand ≡ hand.Taken held → IsNextBy (taken_over held.stopped) p q held.how held.stopped content result
    → HasInHand a b held content → IsNextOf a b p q result
next_by a b p q held content result taken is holds =
    subst (λ (h : Hand). IsNextFrom h a b p q result) (sym taken) (content, is, holds)
