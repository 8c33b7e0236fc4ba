-- The errors that are printed by name (errno(3)).
use Rattle.std.specs.Prelude.{ℕ, List, map, Option}
use Rattle.trace_options.specs.Names.{Named, name_in}
use Rattle.trace_options.specs.declared.error_names.TheConstants.{ERRORS}

-- the errors by number, with their names
unfoldable pub error_table : List Named
error_table = map (λ row. (row.0, row.1.now)) ERRORS

-- the name of an error
abbrev pub error_name : ℕ → Option (List ℕ)
error_name = name_in error_table
