-- So few digits fit 64 bits, read two at a time.
use Rattle.std.proofs.Common.{refl, suc, ◌≡◌, ◌∙◌, ◌≤◌, ◌<◌, ◌+◌, ◌*◌, ◌-◌, ◌^◌, ap, arith, drop, get_or, length, sym, take}
use Rattle.std.proofs.lemmas.List.{length-drop}
use Rattle.text_lines.specs.Numbers.{digits_after, within_u64}
use Rattle.text_lines.proofs.Cuts.{whole_rest}
use Rattle.std.specs.Char.{digit_value}
use Rattle.text_lines.proofs.Digits.{digit_below, digit_fits, first_two, fits_u64, no_more, one_more, one_none, only_one}
use Rattle.text_lines.proofs.Digits.{pair_below, pair_fits, pair_more, pair_none, power_fits, some_digits}
use Rattle.text_lines.proofs.numbers.short_hexadecimal.Goals as goal

pub pairs-init : goal.pairs-init
pairs-init c =
    let size = length c.args.digits.now in record {
      left = omega arith;
      small = let none : size - size ≡ 0 = omega arith in rw none (omega arith);
      read = some_digits c.args.digits.now (c.if-is_empty.ensures);
    }

pub overflow_mul-n : goal.overflow_mul-n
overflow_mul-n c =
    let i = length c.args.digits.now - length c.pairs.rest.now in
    let few : suc (suc i) ≤ 16 = omega (arith, c.requires, c.in-len2-up.len_at_least, c.pairs.invariant.left) in
    let fits : c.pairs.n * 256 + 0 < 16 ^ suc (suc i) =
    pair_fits c.pairs.n 0 i (suc (suc i)) c.pairs.invariant.small (omega arith) refl in
    omega (arith, fits, power_fits (suc (suc i)) few)

pub returns-in_err-n : goal.returns-in_err-n
returns-in_err-n c =
    let rest = c.pairs.rest.now in
    c.from_residual.ensures
    ∙ ap within_u64 (
    sym (pair_none c.pairs.n (get_or rest 0 0) (get_or rest 1 0) (drop 2 rest) c.in_err-n.ensures)
    ∙ sym (ap (digits_after 16 c.pairs.n) (first_two rest c.in-len2-up.len_at_least)) ∙ c.pairs.invariant.read)

pub overflow_add-n : goal.overflow_add-n
overflow_add-n c =
    let i = length c.args.digits.now - length c.pairs.rest.now in
    let rest = c.pairs.rest.now in
    let pair = c.in_ok-n.field-0 in
    let few : suc (suc i) ≤ 16 = omega (arith, c.requires, c.in-len2-up.len_at_least, c.pairs.invariant.left) in
    let below : pair < 256 = pair_below (get_or rest 0 0) (get_or rest 1 0) pair c.in_ok-n.ensures in
    let fits : c.pairs.n * 256 + pair < 16 ^ suc (suc i) =
    pair_fits c.pairs.n pair i (suc (suc i)) c.pairs.invariant.small below refl in
    omega (arith, fits, power_fits (suc (suc i)) few)

pub pairs-smaller : goal.pairs-smaller
pairs-smaller c = omega (arith, ap length (whole_rest 2 c.pairs.rest.now), length-drop 2 c.pairs.rest.now, c.in-len2-up.len_at_least)

pub pairs-preserved : goal.pairs-preserved
pairs-preserved c =
    let all = length c.args.digits.now in
    let rest = c.pairs.rest.now in
    let pair = c.in_ok-n.field-0 in
    let left = take (length rest - 2) (drop 2 rest) in
    let left_is : left ≡ drop 2 rest = whole_rest 2 rest in
    let size : length left ≡ length rest - 2 = ap length left_is ∙ length-drop 2 rest in
    let below : pair < 256 = pair_below (get_or rest 0 0) (get_or rest 1 0) pair c.in_ok-n.ensures in record {
      left = omega (arith, size, c.pairs.invariant.left);
      small = pair_fits c.pairs.n pair (all - length rest) (all - length left) c.pairs.invariant.small below
          (omega (arith, size, c.pairs.invariant.left, c.in-len2-up.len_at_least));
      read = ap (digits_after 16 (c.pairs.n * 256 + pair)) left_is
          ∙ sym (pair_more c.pairs.n (get_or rest 0 0) (get_or rest 1 0) pair (drop 2 rest) c.in_ok-n.ensures)
          ∙ sym (ap (digits_after 16 c.pairs.n) (first_two rest c.in-len2-up.len_at_least)) ∙ c.pairs.invariant.read;
    }

pub overflow_mul-result : goal.overflow_mul-result
overflow_mul-result c =
    let i = length c.args.digits.now - length c.pairs.rest.now in
    let few : i < 16 = omega (arith, c.requires, c.in-len1.len_at_least, c.pairs.invariant.left) in
    let fits : c.pairs.n * 16 + 0 < 16 ^ 16 =
    digit_fits 16 c.pairs.n 0 i 16 (omega arith) c.pairs.invariant.small (omega arith) few in
    omega (arith, fits)

pub returns-in_err-digit-in-len1 : goal.returns-in_err-digit-in-len1
returns-in_err-digit-in-len1 c =
    let rest = c.pairs.rest.now in
    c.from_residual-in_err-digit-in-len1.ensures
    ∙ ap within_u64 (
    sym (one_none c.pairs.n (get_or rest 0 0) c.in_err-digit-in-len1.ensures)
    ∙ sym (ap (digits_after 16 c.pairs.n) (only_one rest c.in-len1.len_at_least c.in-len1.len_below))
    ∙ c.pairs.invariant.read)

last_fits : (c : goal.In_ok-digit-in-len1) → c.pairs.n * 16 + c.in_ok-digit-in-len1.field-0 < 16 ^ 16
last_fits c =
    let i = length c.args.digits.now - length c.pairs.rest.now in
    let digit = c.in_ok-digit-in-len1.field-0 in
    let few : i < 16 = omega (arith, c.requires, c.in-len1.len_at_least, c.pairs.invariant.left) in
    let below : digit < 16 = digit_below 16 (digit_value (get_or c.pairs.rest.now 0 0)) digit
    c.in_ok-digit-in-len1.ensures in
    digit_fits 16 c.pairs.n digit i 16 (omega arith) c.pairs.invariant.small below few

pub overflow_add-result : goal.overflow_add-result
overflow_add-result c = omega (arith, last_fits c)

pub returns-in_ok-digit-in-len1 : goal.returns-in_ok-digit-in-len1
returns-in_ok-digit-in-len1 c =
    let rest = c.pairs.rest.now in
    let digit = c.in_ok-digit-in-len1.field-0 in
    sym (fits_u64 (c.pairs.n * 16 + digit) (omega (arith, last_fits c)))
    ∙ ap within_u64 (
    sym (one_more c.pairs.n (get_or rest 0 0) digit c.in_ok-digit-in-len1.ensures)
    ∙ sym (ap (digits_after 16 c.pairs.n) (only_one rest c.in-len1.len_at_least c.in-len1.len_below))
    ∙ c.pairs.invariant.read)

pub returns-in_default-rest : goal.returns-in_default-rest
returns-in_default-rest c =
    let i = length c.args.digits.now - length c.pairs.rest.now in
    sym (fits_u64 c.pairs.n (omega (arith, c.pairs.invariant.small, power_fits i (omega (arith, c.requires)))))
    ∙ ap within_u64 (sym (no_more c.pairs.n c.pairs.rest.now c.in_default-rest.len_below) ∙ c.pairs.invariant.read)
