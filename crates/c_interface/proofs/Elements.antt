-- What a machine answers, as the next element of its trace.
use Rattle.std.proofs.Common.{refl, ◌≡◌, ◌∙◌, sym, ap, ℕ, Result, Ok, Err}
use Rattle.trace_record.specs.Content.{Content}
use Rattle.trace_record.specs.Death.{death_status}
use Rattle.trace_record.specs.declared.death.Death.{Death}
use Rattle.trace_script.specs.Machine.{IsAnswer}
use Rattle.trace_script.specs.StopTrace.{DeathIs, Element, FaultIs, StopIs}
use Rattle.trace_script.specs.declared.machine.next.Next.{Next}
use Rattle.trace_script.specs.declared.machine.next.Next.TheVariants as next
use Rattle.c_interface.specs.InHand.{taken_over}
use Rattle.c_interface.specs.Scripts.{IsElement, itself}
use Rattle.c_interface.specs.Stop.{numbers_of}
use Rattle.c_interface.specs.declared.error.Error.{Error}
use Rattle.c_interface.specs.declared.error.Error.TheVariants as error
use Rattle.c_interface.specs.declared.scripts.NextStep.{NextStep}
use Rattle.c_interface.specs.declared.scripts.NextStep.TheVariants as step

module _ (old new : Content) (answer : Next) (result : Result NextStep Error) where
  pub at_stop : (e : Element) → IsAnswer e answer old new → answer ≡ next.Stop
      → result ≡ Ok (step.Stop (numbers_of new.stop)) → IsElement e itself old new result
  at_stop (StopIs content) is stop told =
      (told ∙ ap (λ (x : Content). Ok (step.Stop (numbers_of x.stop))) is.1, is.1)
  at_stop (DeathIs death) is stop told = let clash : next.Stop ≡ next.Death death = sym stop ∙ is.0 in cc
  at_stop (FaultIs address) is stop told = let clash : next.Stop ≡ next.Fault address = sym stop ∙ is.0 in cc

  pub at_death : (e : Element) → IsAnswer e answer old new → (death : Death) → answer ≡ next.Death death
      → result ≡ Ok (step.Death (death_status death)) → IsElement e itself old new result
  at_death (StopIs content) is death dies told = let clash : next.Stop ≡ next.Death death = sym is.0 ∙ dies in cc
  at_death (DeathIs other) is death dies told =
      let both : next.Death death ≡ next.Death other = sym dies ∙ is.0 in
      let same : death ≡ other = cc in (told ∙ ap (λ d. Ok (step.Death (death_status d))) same, is.1)
  at_death (FaultIs address) is death dies told =
      let clash : next.Fault address ≡ next.Death death = sym is.0 ∙ dies in cc

  pub at_fault : (e : Element) → IsAnswer e answer old new → (address : ℕ) → answer ≡ next.Fault address
      → result ≡ Err error.EFAULT → IsElement e itself old new result
  at_fault (StopIs content) is address faults told =
      let clash : next.Stop ≡ next.Fault address = sym is.0 ∙ faults in cc
  at_fault (DeathIs death) is address faults told =
      let clash : next.Death death ≡ next.Fault address = sym is.0 ∙ faults in cc
  at_fault (FaultIs other) is address faults told = (told, is.1)

-- under the row's own thread id and number
pub over_own : (e : Element) (old new : Content) (result : Result NextStep Error) → IsElement e itself old new result
    → IsElement e (taken_over old) old (taken_over old new) result
over_own (StopIs content) old new result is = (is.0, ap (taken_over old) is.1)
over_own (DeathIs death) old new result is = (is.0, record { tid = refl; number = refl; stop = is.1.stop })
over_own (FaultIs address) old new result is = (is.0, ap (taken_over old) is.1)
