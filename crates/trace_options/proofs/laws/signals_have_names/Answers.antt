-- The rows of the table of signals are the numbers from 1 to 31.
use Rattle.std.proofs.Common.{refl}
use Rattle.trace_options.specs.SignalNames.{signal_table}
use Rattle.trace_options.proofs.laws.signals_have_names.Goals as goal

pub returns : goal.returns
unfolding signal_table
returns c = refl
