-- What a writer took, write by write.
use Rattle.std.proofs.Common.{◌≡◌, ◌+◌, ◌++◌, ℕ, List, Option, Some, None, ap, ◌∙◌, take, drop, append_assoc, length}
use Rattle.std.proofs.Common.{length-drop, ◌-◌, arith}
use Rattle.std.proofs.lemmas.List.{take_all}
use Rattle.std.proofs.Math.Seq.{take-add}
use Rattle.std.specs.Io.KnownBytes.{Appends}

pub appends_more : (old mid new : Option (List ℕ)) (bytes : List ℕ) (n m : ℕ) → Appends old mid (take n bytes)
    → Appends mid new (take m (drop n bytes)) → Appends old new (take (n + m) bytes)
appends_more None mid new bytes n m first second = tt
appends_more (Some xs) None new bytes n m first second = absurd first
appends_more (Some xs) (Some ys) None bytes n m first second = absurd second
appends_more (Some xs) (Some ys) (Some zs) bytes n m first second =
    rw (take-add n m bytes) (second ∙ ap (λ t. t ++ take m (drop n bytes)) first
    ∙ append_assoc xs (take n bytes) (take m (drop n bytes)))

pub rest_whole : (bytes : List ℕ) (n : ℕ) → take (length bytes - n) (drop n bytes) ≡ drop n bytes
rest_whole bytes n = take_all (length bytes - n) (drop n bytes) (rw length-drop (omega arith))
