-- What a line of a litmus file says.
use Rattle.std.specs.Prelude.{ℕ, List, Option, option_map}
use Rattle.stop_program.specs.declared.voice.Voice.{Voice}
use Rattle.stop_history.specs.declared.roster.Row.{Row}
use Rattle.litmus_files.specs.declared.line.LitmusCommand.{LitmusCommand}
use Rattle.litmus_files.specs.declared.line.LitmusLine.{LitmusLine}
use Rattle.litmus_files.specs.declared.line.LitmusLine.TheVariants as kept
use Rattle.litmus_files.specs.LitmusCondition.{Asked, condition_asked}

pub data Said : Type 0 where
  -- it has no words, or is a comment
  Nothing : Said
  -- a row of the roster
  Declares : (row : Row) → Said
  -- a thread begins, with a name or without one
  Thread : (voice : Voice) → (name : Option (List ℕ)) → Said
  -- the commands to the next `end` are done this many times
  Repeat : (times : ℕ) → Said
  End : Said
  Only : (asked : Asked) → Said
  Command : (command : LitmusCommand) → Said

-- a line whose names are slices of the file, read as what it says
abbrev pub litmus_said : LitmusLine → Said
litmus_said kept.Nothing = Nothing
litmus_said (kept.Row row) = Declares row
litmus_said (kept.Thread voice name) = Thread voice (option_map (λ n. n.now) name)
litmus_said (kept.Repeat times) = Repeat times
litmus_said kept.End = End
litmus_said (kept.Only condition) = Only (condition_asked condition)
litmus_said (kept.Command command) = Command command
