-- A line as it is kept while a file is read, whose byte words are slices of the file, read as what it says.
use Rattle.std.specs.Prelude.{◌≡◌, ◌%◌, true, Option, Some, None}
use Rattle.trace_pages.specs.declared.pages.TheConstants.{PAGE_SIZE}
use Rattle.trace_script.specs.declared.case.raw_line.RawCall.{RawCall}
use Rattle.trace_script.specs.declared.case.raw_line.RawFill.{RawFill}
use Rattle.trace_script.specs.declared.case.raw_line.RawLine.{RawLine}
use Rattle.trace_script.specs.declared.case.raw_line.RawLine.TheVariants as raw_line
use Rattle.trace_script.specs.declared.case.raw_line.RawPart.{RawPart}
use Rattle.trace_script.specs.declared.case.raw_line.RawPart.TheVariants as raw_part
use Rattle.trace_script.specs.declared.case.raw_line.RawStep.{RawStep}
use Rattle.trace_script.specs.declared.case.raw_line.RawStep.TheVariants as raw_step
use Rattle.trace_script.specs.CaseLine.{Line, Part, bytes_written, is_byte_word, no_image}
use Rattle.trace_script.specs.CaseLine as line
pub use Rattle.text_lines.specs.Ranges.{if_said}
use Rattle.trace_script.specs.Script.{Fill, Step}
use Rattle.trace_script.specs.Script as step

abbrev pub part_said : RawPart → Part
part_said (raw_part.Page address) = line.Page address
part_said (raw_part.Data address bytes) = line.Data address (bytes_written bytes.now)
part_said (raw_part.Start rip rsp) = line.Start rip rsp

abbrev pub fill_said : Option RawFill → Option Fill
fill_said None = None
fill_said (Some fill) = Some (record { address = fill.addr; bytes = bytes_written fill.bytes.now })

abbrev pub call_said : RawCall → Step
call_said call = step.Call call.nr call.args call.answer (fill_said call.fill)

abbrev pub step_said : RawStep → Step
step_said (raw_step.Call call) = call_said call
step_said (raw_step.Fork child) = step.Fork child
step_said (raw_step.Thread child) = step.Thread child
step_said (raw_step.Exec path) = step.Exec path no_image
step_said (raw_step.Signal signal deadly) = step.Signal signal deadly
step_said (raw_step.Exit status) = step.Exit status

abbrev pub line_said : RawLine → Line
line_said raw_line.Nothing = line.Nothing
line_said (raw_line.Opens row) = line.Opens row
line_said (raw_line.Loads part) = line.Loads (part_said part)
line_said (raw_line.Does step) = line.Does (step_said step)
line_said raw_line.Closes = line.Closes

-- what was tested with the line: a page's address is a multiple of its size, a byte word is one
abbrev pub IsTestedPart : RawPart → Type 0
IsTestedPart (raw_part.Page address) = address % PAGE_SIZE ≡ 0
IsTestedPart (raw_part.Data address bytes) = is_byte_word bytes.now ≡ true
IsTestedPart (raw_part.Start rip rsp) = Unit {0}

abbrev pub IsTestedFill : Option RawFill → Type 0
IsTestedFill None = Unit {0}
IsTestedFill (Some fill) = is_byte_word fill.bytes.now ≡ true

abbrev pub IsTestedCall : RawCall → Type 0
IsTestedCall call = IsTestedFill call.fill

abbrev pub IsTestedStep : RawStep → Type 0
IsTestedStep (raw_step.Call call) = IsTestedCall call
IsTestedStep other = Unit {0}

abbrev pub IsTested : RawLine → Type 0
IsTested (raw_line.Loads part) = IsTestedPart part
IsTested (raw_line.Does step) = IsTestedStep step
IsTested other = Unit {0}
