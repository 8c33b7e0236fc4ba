-- One more byte has its value.
use Rattle.std.proofs.Common.{◌≡◌, ◌∙◌, Some, ap, arith, get_or-set_other, get_or-set_same, inl, inr, length-set}
use Rattle.std.proofs.Common.{sym}
use Rattle.std.specs.List.{slice_index, slice_set}
use Rattle.std.proofs.lemmas.Bool.{cases_eq}
use Rattle.hex.specs.Hex.{hex_digit_value}
use Rattle.trace_script.proofs.case.digits.DigitValues.new.Goals as goal

pub loop-i-preserved : goal.loop-i-preserved
loop-i-preserved c =
    let values = c.loop-i.values in
    let i = c.loop-i.i in
    let new = c.value_of.result in
    record {
      size = length-set values i new ∙ c.loop-i.invariant.size;
      known = λ digit below is. elim (cases_eq digit i) as (λ _. hex_digit_value digit ≡ Some (slice_index (slice_set values i new) digit)) [
        | inl same ↦ rw same (c.value_of.ensures (rw same at is)
            ∙ ap Some (sym (get_or-set_same values i new 0 (omega (arith, c.loop-i.invariant.size, c.loop-i-test.true)))))
        | inr apart ↦ c.loop-i.invariant.known digit (omega (arith, below, apart)) is
            ∙ ap Some (sym (get_or-set_other values i digit new 0 apart))
      ];
    }
