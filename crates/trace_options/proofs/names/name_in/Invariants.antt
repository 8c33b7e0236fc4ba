-- The rows that were passed over have other numbers.
use Rattle.std.proofs.Common.{◌≡◌, length, map}
use Rattle.trace_options.specs.Names.{name_in, named}
use Rattle.trace_options.proofs.names.name_in.Given as goal

abbrev pub invariant-loop-table : goal.invariant-loop-table
invariant-loop-table l = name_in (map named l.table) l.number ≡ name_in (map named l.initial.table) l.number

abbrev pub decreases-loop-table : goal.decreases-loop-table
decreases-loop-table l = length l.table
