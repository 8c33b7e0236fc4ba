-- How a signal is printed (signal(7)).
use Rattle.std.specs.Prelude.{◌++◌, ℕ, List, Option, Some, None, codes, decimal}
use Rattle.trace_options.specs.SignalNames.{signal_name}

abbrev pub named_or_numbered : Option (List ℕ) → ℕ → List ℕ
named_or_numbered None number = codes "SIG_" ++ decimal number
named_or_numbered (Some name) number = name

-- a signal by its name, and one that has none by its number
abbrev pub signal_text : ℕ → List ℕ
signal_text number = named_or_numbered (signal_name number) number
