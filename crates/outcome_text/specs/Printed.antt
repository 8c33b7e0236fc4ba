-- What is printed of outcomes, where memory or a write may fail.
use Rattle.std.specs.Prelude.{◌≡◌, ℕ, List, Option, Result, Ok, Err}
use Rattle.std.specs.Io.KnownBytes.{Appends}
use Rattle.outcome_text.specs.declared.print_error.PrintError.{PrintError}
use Rattle.outcome_text.specs.declared.print_error.PrintError.TheVariants as print_error
use Rattle.outcome_text.specs.CutOff.{IsCutOff}

-- a text is written, or a write fails, if there is memory
abbrev pub IsPrintedIfMemory : (text : List ℕ) → (before after : Option (List ℕ)) → Result (Unit {0}) PrintError
    → Type 0
IsPrintedIfMemory text before after (Ok done) = Appends before after text
IsPrintedIfMemory text before after (Err print_error.CutOff) = IsCutOff before after text
IsPrintedIfMemory text before after (Err print_error.NoMemory) = Unit {0}

-- nothing was written if there was no memory
abbrev pub IsUnprinted : {A : Type 0} → (before after : A) → Result (Unit {0}) PrintError → Type 0
IsUnprinted before after (Ok done) = Unit {0}
IsUnprinted before after (Err print_error.CutOff) = Unit {0}
IsUnprinted before after (Err print_error.NoMemory) = after ≡ before
