-- What a line feed is before begins a character.
use Rattle.std.proofs.Common.{◌≡◌, ◌+◌, ◌-◌, ◌<◌, ◌≤◌, ◌∙◌, ap, arith, get_or, length, slice_index, subst, sym}
use Rattle.std.proofs.lemmas.Str.{lead_after_ascii}
use Rattle.outcome_text.proofs.turn_texts.cut_after_line.Goals as goal

pub truncate-requires : goal.truncate-requires
truncate-requires g c = λ long.
    let text = c.as_str.result.now in
    let end = c.args.end in
    let same = c.as_str.ensures.value in
    let feed : get_or text (end - 1) 0 ≡ 10 = ap (λ bytes. get_or bytes (end - 1) 0) same ∙ c.requires in
    subst
    (λ bytes. (end ≤ length bytes)
    × (0 < end → end < length bytes → 128 ≤ slice_index bytes end → 192 ≤ slice_index bytes end)) same (
      omega (arith, c.if-end-as_str.true),
      λ some less high.
          let one : end - 1 + 1 ≡ end = omega (arith, some) in
          subst (λ n. 192 ≤ get_or text n 0) one
          (lead_after_ascii text (end - 1) c.as_str.utf8 (omega (arith, feed)) (omega (arith, less, some))
          (subst (λ n. 128 ≤ get_or text n 0) (sym one) high)),
    )
