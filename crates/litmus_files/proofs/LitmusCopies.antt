-- Copies of a repeat's commands, one after another.
use Rattle.std.proofs.Common.{◌≡◌, ◌∙◌, ◌+◌, ◌*◌, ◌++◌, ℕ, suc, zero, List, add-one, ap, append-nil, append_assoc}
use Rattle.std.proofs.Common.{arith, length, length-append, map, sym}
use Rattle.std.proofs.lemmas.List.{map-append}
use Rattle.std.proofs.lemmas.List.Elements.{All-append, All-nil}
use Rattle.litmus_files.specs.LitmusGrammar.{IsLitmusCall}
use Rattle.litmus_files.specs.declared.required.NumberedCommand.{NumberedCommand}
use Rattle.litmus_files.specs.declared.required.NumberedLine.{NumberedLine}
use Rattle.litmus_files.specs.LitmusFile.{AreLitmusCalls, copies_of}

pub no_copies : (f : NumberedCommand → NumberedLine) (lines : List NumberedLine) (body : List NumberedCommand)
    → lines ≡ lines ++ map f (copies_of 0 body)
unfolding copies_of
no_copies f lines body = sym (append-nil lines)

pub one_more_copy : (f : NumberedCommand → NumberedLine) (start before after : List NumberedLine) (n : ℕ)
    (body : List NumberedCommand) → before ≡ start ++ map f (copies_of n body) → after ≡ before ++ map f body
    → after ≡ start ++ map f (copies_of (n + 1) body)
unfolding copies_of
one_more_copy f start before after n body so_far added =
    added ∙ ap (λ ls. ls ++ map f body) so_far ∙ append_assoc start (map f (copies_of n body)) (map f body)
    ∙ ap (λ ls. start ++ ls) (sym (map-append f (copies_of n body) body))
    ∙ ap (λ k. start ++ map f (copies_of k body)) (sym (add-one n))

pub length_copies : (n : ℕ) (body : List NumberedCommand) → length (copies_of n body) ≡ n * length body
unfolding copies_of
length_copies zero body = omega arith
length_copies (suc n) body = omega (arith, length-append (copies_of n body) body, length_copies n body)

-- copies ask what the commands ask
pub copies_asked : (n : ℕ) (body : List NumberedCommand) → AreLitmusCalls body → AreLitmusCalls (copies_of n body)
unfolding copies_of
copies_asked zero body asked = All-nil (λ (c : NumberedCommand). IsLitmusCall c.command.call)
copies_asked (suc n) body asked =
    All-append (λ (c : NumberedCommand). IsLitmusCall c.command.call) (copies_of n body) body (copies_asked n body asked) asked
