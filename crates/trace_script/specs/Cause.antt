-- The causes of a refusal: their names, and the cause that a fault of a line or of a roster is reported as.
use Rattle.std.specs.Prelude.{ℕ, List, codes}
use Rattle.stop_history.specs.declared.roster.RosterError.{RosterError}
use Rattle.stop_history.specs.declared.roster.RosterError.TheVariants as fault
use Rattle.trace_script.specs.declared.cause.Cause.{Cause}
use Rattle.trace_script.specs.declared.cause.Cause.TheVariants as cause
use Rattle.text_lines.specs.declared.fault.LineFault.{LineFault}
use Rattle.text_lines.specs.declared.fault.LineFault.TheVariants as line_fault

abbrev pub line_cause : LineFault → Cause
line_cause line_fault.UnknownWord = cause.UnknownWord
line_cause line_fault.BadNumber = cause.BadNumber
line_cause line_fault.BadHex = cause.BadHex

abbrev pub cause_of : RosterError → Cause
cause_of fault.TooMany = cause.TooMany
cause_of (fault.Number row) = cause.BadNumber
cause_of (fault.Twice row) = cause.TwiceTracee
cause_of (fault.ParentLater row) = cause.ParentLater
cause_of (fault.GroupMismatch row) = cause.GroupMismatch
cause_of fault.NoMemory = cause.NoMemory

-- as it is printed
abbrev pub cause_name : Cause → List ℕ
cause_name cause.UnknownWord = codes "UnknownWord"
cause_name cause.BadNumber = codes "BadNumber"
cause_name cause.BadHex = codes "BadHex"
cause_name cause.NoSuchTracee = codes "NoSuchTracee"
cause_name cause.TwiceTracee = codes "TwiceTracee"
cause_name cause.ParentLater = codes "ParentLater"
cause_name cause.GroupMismatch = codes "GroupMismatch"
cause_name cause.SharedExec = codes "SharedExec"
cause_name cause.TooMany = codes "TooMany"
cause_name cause.Unmapped = codes "Unmapped"
cause_name cause.NoEnd = codes "NoEnd"
cause_name cause.Signal = codes "Signal"
cause_name cause.ChildOrder = codes "ChildOrder"
cause_name cause.NoMemory = codes "NoMemory"
