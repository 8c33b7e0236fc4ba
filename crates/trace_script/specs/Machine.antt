-- What a machine answers, and leaves in the record.
use Rattle.std.specs.Prelude.{◌≡◌, ◌∷◌, []}
use Rattle.trace_record.specs.Content.{Content}
use Rattle.trace_record.specs.declared.death.Death.{Death}
use Rattle.trace_script.specs.StepStops.{Dies}
use Rattle.trace_script.specs.StopTrace.{Element, Position, StopIs, DeathIs, FaultIs}
use Rattle.trace_script.specs.declared.machine.next.Next.{Next}
use Rattle.trace_script.specs.declared.machine.next.Next.TheVariants as next

-- the record is still that of the last stop; its tracee may have gone on from there
pub record StaysAtStop (old new : Content) : Type 0 where
  pub tid : new.tid ≡ old.tid
  pub number : new.number ≡ old.number
  pub stop : new.stop ≡ old.stop

-- nothing but the death is left: the stop before it was made, or it was answered before
abbrev pub IsAtDeath : Position → Type 0
IsAtDeath p = (death : Death) × (p.left ≡ Dies death ∷ [])

-- the next element of the trace as the answer: a stop's content is in the record, a death makes no stop, and a fault
-- leaves the record
abbrev pub IsAnswer : Element → Next → (old new : Content) → Type 0
IsAnswer (StopIs content) answer old new = (answer ≡ next.Stop) × (new ≡ content)
IsAnswer (DeathIs death) answer old new = (answer ≡ next.Death death) × StaysAtStop old new
IsAnswer (FaultIs address) answer old new = (answer ≡ next.Fault address) × (new ≡ old)
