-- The first fault of a line: one step after another, and numbers in range.
use Rattle.std.specs.Prelude.{◌&&◌, ℕ, nat_le, List, Option, Some, None, Result, Ok, Err, if◌then◌else◌}
use Rattle.text_lines.specs.declared.fault.LineFault.{LineFault}
use Rattle.text_lines.specs.declared.fault.LineFault.TheVariants.{BadNumber}
use Rattle.text_lines.specs.Numbers.{number_of}

infixl 10 ◌>>=◌
abbrev pub ◌>>=◌ : {A B E : Type 0} → Result A E → (A → Result B E) → Result B E
(Ok x) >>= f = f x
(Err fault) >>= f = Err fault

abbrev pub ranged : (low high : ℕ) → Option ℕ → Result ℕ LineFault
ranged low high None = Err BadNumber
ranged low high (Some n) = if nat_le low n && nat_le n high then Ok n else Err BadNumber

abbrev pub number_between : (low high : ℕ) → List ℕ → Result ℕ LineFault
number_between low high word = ranged low high (number_of word)

-- a result with this made of what it holds
abbrev pub if_said : {A B E : Type 0} → (A → B) → Result A E → Result B E
if_said said (Ok x) = Ok (said x)
if_said said (Err e) = Err e
