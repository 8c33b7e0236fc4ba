-- The table of errors is in order.
use Rattle.std.proofs.Common.{map, refl}
use Rattle.trace_options.specs.ErrorNames.{error_table}
use Rattle.trace_options.specs.Names.{Named}
use Rattle.trace_options.proofs.Tables.{rising}
use Rattle.trace_options.proofs.laws.errors_rise.Goals as goal

pub returns : goal.returns
unfolding error_table
returns c = rising (map (λ (row : Named). row.0) error_table) refl
