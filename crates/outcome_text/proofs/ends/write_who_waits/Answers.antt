-- Several threads are listed.
use Rattle.std.proofs.Common.{◌∙◌, ◌++◌, ap, append_assoc, arith, codes, map, string_bytes, sym}
use Rattle.std.proofs.lemmas.List.{length-map}
use Rattle.outcome_text.specs.OutcomeEnds.{listed}
use Rattle.outcome_text.proofs.EndWords.{several_wait}
use Rattle.outcome_text.proofs.ends.write_who_waits.Goals as goal

pub returns-in_ok-push_str-in_default : goal.returns-in_ok-push_str-in_default
returns-in_ok-push_str-in_default g c =
    let words = map string_bytes c.args.words.now in
    let many = length-map c.args.words.now string_bytes in
    c.in_ok-push_str-in_default.ensures.bytes
    ∙ ap (λ t. t ++ codes " wait") c.in_ok-write_listed-in_default.ensures
    ∙ append_assoc (string_bytes c.args.out.now) (listed words) (codes " wait")
    ∙ ap (λ t. string_bytes c.args.out.now ++ t)
    (sym (several_wait words (omega (arith, many, c.in_default.len_at_least))))
