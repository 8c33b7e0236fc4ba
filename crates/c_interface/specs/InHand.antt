-- The calls for C on the record of a row that is taken up (ptrace(2)), from the end before a call (a) to the end after
-- it (b). Each is the call on a record; where the row is not taken up it is ESRCH, and nothing changes.
use Rattle.std.specs.Prelude.{◌≡◌, ℕ, List, Result, Ok, Err}
use Rattle.trace_record.specs.Content.{Content, content_by}
use Rattle.trace_regs.specs.declared.regs.Regs.{Regs}
use Rattle.trace_script.specs.StopTrace.{Position}
use Rattle.c_interface.specs.Record.{IsMapping, IsWrite, with_registers}
use Rattle.c_interface.specs.Scripts.{IsNextBy}
use Rattle.c_interface.specs.TraceeEnd.{IsRefused}
use Rattle.c_interface.specs.declared.error.Error.{Error}
use Rattle.c_interface.specs.declared.error.Error.TheVariants as error
use Rattle.c_interface.specs.declared.scripts.NextStep.{NextStep}
use Rattle.c_interface.specs.declared.hand.Hand.{Hand}
use Rattle.c_interface.specs.declared.hand.Hand.TheVariants as hand
use Rattle.c_interface.specs.declared.hand.InHand.{InHand}
use Rattle.c_interface.specs.declared.tracee_end.TraceeEnd.{TraceeEnd}

-- something of the record in hand
abbrev pub IsShownFrom : {T : Type 0} → Hand → (Content → T) → Result T Error → Type 0
IsShownFrom hand.AtRest shown result = result ≡ Err error.ESRCH
IsShownFrom (hand.Taken held) shown result = result ≡ Ok (shown held.stopped)
IsShownFrom hand.Ended shown result = result ≡ Err error.ESRCH

abbrev pub IsShownInHand : {T : Type 0} → TraceeEnd → (Content → T) → Result T Error → Type 0
IsShownInHand a shown result = IsShownFrom a.hand shown result

-- the record in hand is this one, and nothing else has changed
pub record HasInHand (a b : TraceeEnd) (held : InHand) (content : Content) : Type 0 where
  pub tracee : b.tracee ≡ a.tracee
  pub roster : b.roster ≡ a.roster
  pub row : b.row ≡ a.row
  pub births : b.births ≡ a.births
  pub in_hand : b.hand ≡ hand.Taken (record { how = held.how; stopped = content })

-- a call that changes the record in hand
abbrev pub IsHeldFrom : {T : Type 0} → (Content → Content → Result T Error → Type 0) → Hand → (a b : TraceeEnd)
    → Result T Error → Type 0
IsHeldFrom call hand.AtRest a b result = IsRefused a b error.ESRCH result
IsHeldFrom call (hand.Taken held) a b result =
    (content : Content) × call held.stopped content result × HasInHand a b held content
IsHeldFrom call hand.Ended a b result = IsRefused a b error.ESRCH result

abbrev pub IsHeldOf : {T : Type 0} → (Content → Content → Result T Error → Type 0) → (a b : TraceeEnd)
    → Result T Error → Type 0
IsHeldOf call a b result = IsHeldFrom call a.hand a b result

abbrev pub IsRegsSet : Regs → Content → Content → Result (Unit {0}) Error → Type 0
IsRegsSet regs old new result = (result ≡ Ok tt) × (new ≡ with_registers old regs)

abbrev pub IsMappingOf : (address : ℕ) → Content → Content → Result (Unit {0}) Error → Type 0
IsMappingOf address old new result = IsMapping old new address result

abbrev pub IsWriteOf : (address : ℕ) → List ℕ → Content → Content → Result (Unit {0}) Error → Type 0
IsWriteOf address bytes old new result = IsWrite old new address bytes result

-- ---- scripts

-- the record of a script's stop, under the row's own thread id and number
abbrev pub taken_over : Content → Content → Content
taken_over held made = content_by held.tid held.number made.stop made.regs made.memory

abbrev pub IsNextFrom : Hand → (a b : TraceeEnd) → (p q : Position) → Result NextStep Error → Type 0
IsNextFrom hand.AtRest a b p q result = IsRefused a b error.ESRCH result × (q ≡ p)
IsNextFrom (hand.Taken held) a b p q result =
    (content : Content) × IsNextBy (taken_over held.stopped) p q held.how held.stopped content result
    × HasInHand a b held content
IsNextFrom hand.Ended a b p q result = IsRefused a b error.ESRCH result × (q ≡ p)

abbrev pub IsNextOf : (a b : TraceeEnd) → (p q : Position) → Result NextStep Error → Type 0
IsNextOf a b p q result = IsNextFrom a.hand a b p q result
