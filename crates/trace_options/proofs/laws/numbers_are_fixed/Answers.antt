-- The tables of calls and errors are computed.
use Rattle.std.proofs.Common.{refl}
use Rattle.trace_options.specs.ErrorNames.{error_table}
use Rattle.trace_options.specs.Syscalls.{syscall_table}
use Rattle.trace_options.proofs.laws.numbers_are_fixed.Goals as goal

pub returns-clause-calls : goal.returns-clause-calls
unfolding syscall_table
returns-clause-calls c = refl

pub returns-clause-first_call : goal.returns-clause-first_call
unfolding syscall_table
returns-clause-first_call c = refl

pub returns-clause-last_call : goal.returns-clause-last_call
unfolding syscall_table
returns-clause-last_call c = refl

pub returns-clause-errors : goal.returns-clause-errors
unfolding error_table
returns-clause-errors c = refl

pub returns-clause-first_error : goal.returns-clause-first_error
unfolding error_table
returns-clause-first_error c = refl

pub returns-clause-last_error : goal.returns-clause-last_error
unfolding error_table
returns-clause-last_error c = refl
