-- A call whose bit is 1 is added, and nothing else changes.
use Rattle.std.proofs.Common.{ℕ, ◌∙◌, ap, sym, arith}
use Rattle.trace_options.specs.Calls.{Calls, has_call}
use Rattle.c_interface.specs.MachineEnd.{has_bit}
use Rattle.c_interface.proofs.CallSets.{with_next, without_next}
use Rattle.c_interface.proofs.machine_end.call_set.Goals as goal
use Rattle.c_interface.proofs.machine_end.call_set.Goals.{then-has_bit, else-has_bit}

pub loop-nr-init : goal.loop-nr-init
loop-nr-init c = (λ k low. let none : ⊥ = omega (arith, low) in absurd none, λ k high. c.none-set.ensures k)

pub loop-nr-preserved : goal.loop-nr-preserved
loop-nr-preserved c =
    let old = has_call c.loop-nr.set in
    let bits = has_bit c.args.calls.now in
    let put = λ (k : ℕ) (s : Calls). has_call s k in
    elim c.if-has_bit.branch [
      | then-has_bit w ↦
          with_next old _ bits c.loop-nr.nr c.loop-nr.invariant (λ k. ap (put k) w.set-is ∙ w.add.ensures k)
          (sym c.has_bit.ensures ∙ w.if-has_bit.true)
      | else-has_bit w ↦
          without_next old _ bits c.loop-nr.nr c.loop-nr.invariant (λ k. ap (put k) w.set-is)
          (sym c.has_bit.ensures ∙ w.if-has_bit.false)
    ]

pub returns : goal.returns
returns c = record {
  named = λ k low. c.loop-nr.invariant.0 k (omega (arith, low, c.loop-nr-test.false));
  others = λ k high. c.loop-nr.invariant.1 k (omega (arith, high, c.loop-nr.auto.nr-end));
}
