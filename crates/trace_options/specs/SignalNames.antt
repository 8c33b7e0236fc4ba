-- The standard signals and their names (signal(7)).
use Rattle.std.specs.Prelude.{ℕ, List, map, Option}
use Rattle.trace_options.specs.Names.{Named, name_in}
use Rattle.trace_options.specs.declared.signal.TheConstants.{SIGNALS}

-- the standard signals by number, with their names
unfoldable pub signal_table : List Named
signal_table = map (λ row. (row.0, row.1.now)) SIGNALS

-- the name of a signal
abbrev pub signal_name : ℕ → Option (List ℕ)
signal_name = name_in signal_table
