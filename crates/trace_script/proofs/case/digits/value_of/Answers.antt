-- A digit is never refused.
use Rattle.std.proofs.Common.{◌≡◌, ◌∙◌, ◌∷◌, [], Err, List, Ok, Result, Some, ap, get_or, sym, ℕ}
use Rattle.hex.specs.declared.error.FromHexError.{FromHexError}
use Rattle.hex.specs.Hex.{decode_sized}
use Rattle.trace_script.proofs.ByteWords.{value_alone}
use Rattle.trace_script.proofs.case.digits.value_of.Goals as goal

abbrev answer : Result (List ℕ) FromHexError → Result (List ℕ) FromHexError
answer r = r

pub returns-in-Ok : goal.returns-in-Ok
returns-in-Ok c is =
    let alone = value_alone c.args.byte is in
    let same : answer (Ok c.in-Ok.value) ≡ answer (Ok (alone.0 ∷ [])) =
    c.in-Ok.ensures ∙ ap (λ t. decode_sized t 1) c.as_slice.ensures ∙ alone.2 in
    let byte : c.in-Ok.value ≡ alone.0 ∷ [] = cc same in
    alone.1 ∙ ap (λ (bytes : List ℕ). Some (get_or bytes 0 0)) (sym byte)

pub returns-in-Err : goal.returns-in-Err
returns-in-Err c is =
    let alone = value_alone c.args.byte is in
    let clash : answer (Err c.in-Err.field-0) ≡ answer (Ok (alone.0 ∷ [])) =
    c.in-Err.ensures ∙ ap (λ t. decode_sized t 1) c.as_slice.ensures ∙ alone.2 in
    absurd (cc clash)
