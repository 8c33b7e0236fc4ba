-- The exit status of each failure, its text on standard error, and the failure of a refused file.
use Rattle.std.specs.Prelude.{◌++◌, [], ℕ, List, codes, decimal, string_bytes}
use Rattle.std.specs.declared.io.ErrorKind.{ErrorKind}
use Rattle.std.specs.declared.io.ErrorKind.TheVariants.{OutOfMemory}
use Rattle.trace_script.specs.declared.cause.Cause.{Cause}
use Rattle.trace_script.specs.declared.cause.Cause.TheVariants as cause
use Rattle.trace_script.specs.declared.cause.CaseError.{CaseError}
use Rattle.trace_script.specs.CaseError.{case_error_text}
use Rattle.tracer_cli.specs.declared.failure.Failure.{Failure}
use Rattle.tracer_cli.specs.declared.failure.Failure.TheVariants.{Refused, Usage, NoText, UnknownCall, NoMemory}
use Rattle.tracer_cli.specs.declared.failure.Failure.TheVariants.{CannotRead, CannotWrite, LostStop, NoThreads}
use Rattle.tracer_cli.specs.declared.failure.Failure.TheVariants.{TooManyPlaces, NoOutcome, Forbidden}
use Rattle.stop_explorer.specs.declared.error.ExploreError.{ExploreError}
use Rattle.stop_explorer.specs.declared.error.ExploreError.TheVariants as explore_error
use Rattle.tracer_workers.specs.declared.run_error.RunError.{RunError}
use Rattle.tracer_workers.specs.declared.run_error.RunError.TheVariants as run_error

abbrev pub failure_status : Failure → ℕ
failure_status (Refused error) = 1
failure_status (Usage text) = 2
failure_status NoText = 2
failure_status (UnknownCall name) = 2
failure_status NoMemory = 3
failure_status CannotRead = 3
failure_status CannotWrite = 3
failure_status LostStop = 3
failure_status NoThreads = 3
failure_status TooManyPlaces = 3
failure_status (NoOutcome number) = 4
failure_status Forbidden = 4

-- messages end with a line feed
abbrev pub failure_text : Failure → List ℕ
failure_text (Refused error) = codes "tracer: " ++ (case_error_text error ++ codes "\n")
failure_text (Usage text) = string_bytes text
failure_text NoText = codes "tracer: an argument is not valid UTF-8\n"
failure_text (UnknownCall name) = codes "tracer: unknown call " ++ (string_bytes name ++ codes "\n")
failure_text NoMemory = codes "tracer: no memory\n"
failure_text CannotRead = codes "tracer: cannot read\n"
failure_text CannotWrite = codes "tracer: cannot write\n"
failure_text LostStop = codes "tracer: lost stop\n"
failure_text NoThreads = codes "tracer: cannot start threads\n"
failure_text TooManyPlaces = codes "tracer: too many places\n"
failure_text (NoOutcome number) = codes "tracer: no outcome " ++ (decimal number ++ codes "\n")
failure_text Forbidden = []

-- the failure at an error of the system: out of memory, or this one
abbrev pub failure_at : ErrorKind → Failure → Failure
failure_at OutOfMemory other = NoMemory
failure_at kind other = other

-- out of memory while a file is read is not a refusal of the file
abbrev pub failure_by : Cause → CaseError → Failure
failure_by cause.NoMemory error = NoMemory
failure_by other error = Refused error

abbrev pub failure_of : CaseError → Failure
failure_of error = failure_by error.cause error

-- the failure at an error of a run
abbrev pub failure_in_run : RunError → Failure
failure_in_run run_error.NoMemory = NoMemory
failure_in_run run_error.Lost = LostStop
failure_in_run run_error.Threads = NoThreads

-- the failure at an error of a search for outcomes
abbrev pub failure_of_search : ExploreError → Failure
failure_of_search explore_error.TooMany = TooManyPlaces
failure_of_search explore_error.NoMemory = NoMemory
