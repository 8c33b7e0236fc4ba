-- A text to which parts were added one after the other.
use Rattle.std.proofs.Common.{◌≡◌, ◌++◌, List, ℕ, append_assoc, ◌∙◌, ap}

pub joined_two : (old mid new a b : List ℕ) → mid ≡ old ++ a → new ≡ mid ++ b → new ≡ old ++ (a ++ b)
joined_two old mid new a b first second = second ∙ ap (λ t. t ++ b) first ∙ append_assoc old a b

pub joined_three : (old mid next new a b c : List ℕ) → mid ≡ old ++ a → next ≡ mid ++ b → new ≡ next ++ c
    → new ≡ old ++ (a ++ (b ++ c))
joined_three old mid next new a b c first second third =
    joined_two old mid new a (b ++ c) first (joined_two mid next new b c second third)
