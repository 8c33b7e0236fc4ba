-- A text with another behind it, taken apart again.
use Rattle.std.proofs.Common.{◌≡◌, ◌++◌, ◌∙◌, ℕ, List, [], Option, Some, None, length, refl, ap}
use Rattle.std.proofs.Common.{is_some}
use Rattle.std.proofs.Math.Seq.{drop-append_seam, take-append_seam}
use Rattle.std.proofs.lemmas.List.{append-nil}
use Rattle.std.specs.Bool.{then_some}
use Rattle.std.specs.Option.{unwrap_or}
use Rattle.record_printer.specs.CallParts.{behind, end_in, front}

-- the place behind a text where another follows it
abbrev pub seam : List ℕ → Option (List ℕ) → Option ℕ
seam text other = then_some (is_some other) (length text)

pub front_is : (text : List ℕ) (other : Option (List ℕ)) → front (seam text other) (text ++ unwrap_or other []) ≡ text
front_is text None = append-nil text
front_is text (Some other) = take-append_seam text other

pub behind_is : (text : List ℕ) (other : Option (List ℕ)) → behind (seam text other) (text ++ unwrap_or other []) ≡ other
behind_is text None = refl
behind_is text (Some other) = ap Some (drop-append_seam text other)

pub end_is : (number : ℕ) (bytes result : List ℕ) (place : Option ℕ) (out : Option (List ℕ))
    → bytes ≡ result ++ unwrap_or out [] → place ≡ seam result out
    → end_in number bytes place ≡ record { number = number; out = out; result = result }
end_is number bytes result place out same at =
    ap (λ b. end_in number b place) same ∙ ap (end_in number (result ++ unwrap_or out [])) at
    ∙ ap (λ o. record { number = number; out = o; result = front (seam result out) (result ++ unwrap_or out []) })
    (behind_is result out)
    ∙ ap (λ r. record { number = number; out = out; result = r }) (front_is result out)
