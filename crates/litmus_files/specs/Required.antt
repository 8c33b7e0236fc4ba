-- What a litmus file requires: its replies and conditions, numbered from 1 in the order of its lines. The program with
-- the first n of them, and the conditions among these.
use Rattle.std.specs.Prelude.{ℕ, nat_le, List, filter, map, if◌then◌else◌}
use Rattle.stop_program.specs.declared.command.ProgramLine.{ProgramLine}
use Rattle.stop_program.specs.Program.{Program}
use Rattle.stop_program.specs.Replies.{without_reply}
use Rattle.litmus_files.specs.declared.required.Condition.{Condition}
use Rattle.litmus_files.specs.declared.required.NumberedCondition.{NumberedCondition}
use Rattle.litmus_files.specs.declared.required.NumberedLine.{NumberedLine}

-- a command has its reply, if that is among them
abbrev pub required_line : (count : ℕ) → NumberedLine → ProgramLine
required_line count numbered =
    if nat_le numbered.number count then numbered.line
    else record { thread = numbered.line.thread; command = without_reply numbered.line.command }

abbrev pub program_with : (count : ℕ) → List NumberedLine → Program
program_with count lines = map (required_line count) lines

abbrev pub conditions_with : (count : ℕ) → List NumberedCondition → List Condition
conditions_with count conditions =
    map (λ numbered. numbered.condition) (filter (λ numbered. nat_le numbered.number count) conditions)
