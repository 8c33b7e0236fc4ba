-- The calls before this one are in the set by their bits, and no other is.
use Rattle.trace_options.specs.Calls.{has_call}
use Rattle.c_interface.specs.MachineEnd.{has_bit}
use Rattle.c_interface.proofs.CallSets.{IsFilled}
use Rattle.c_interface.proofs.machine_end.call_set.Given as goal

abbrev pub invariant-loop-nr : goal.invariant-loop-nr
invariant-loop-nr l = IsFilled l.nr (has_call l.set) (has_bit l.calls)
