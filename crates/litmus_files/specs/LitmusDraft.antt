-- What was read of a litmus file, as the program keeps it, read as the definition's.
use Rattle.std.specs.Borrow.{Bor}
use Rattle.std.specs.Prelude.{◌≡◌, ◌<◌, ◌≤◌, ℕ, IfSome, IsUtf8, List, length, map, Option, Some, None, option_map}
use Rattle.std.specs.List.{All}
use Rattle.litmus_files.specs.declared.required.NumberedCommand.{NumberedCommand}
use Rattle.litmus_files.specs.declared.draft.LitmusDraft.{LitmusDraft}
use Rattle.litmus_files.specs.declared.file.LitmusFile.{LitmusFile}
use Rattle.litmus_files.specs.declared.draft.TheConstants.{MOST_THREADS}
use Rattle.stop_program.specs.Program.{own_commands}
use Rattle.stop_program.specs.Replies.{GoForward}
use Rattle.litmus_files.specs.LitmusFile.{LitmusContent, LitmusReading, OpenRepeat, plain_lines}
use Rattle.litmus_files.specs.LitmusGrammar.{IsLitmusCall}

-- names that are slices of the file
abbrev pub names_kept : List (Option (Bor (List ℕ))) → List (Option (List ℕ))
names_kept names = map (option_map (λ name. name.now)) names

-- names are text
abbrev pub AreTexts : List (Option (Bor (List ℕ))) → Type 0
AreTexts names = All (λ name. IfSome name (λ bytes. IsUtf8 bytes.now)) names

abbrev pub repeat_kept : (times : Option ℕ) → (body : List NumberedCommand) → Option OpenRepeat
repeat_kept None body = None
repeat_kept (Some times) body = Some (record { times = times; body = body })

abbrev pub litmus_reading_of : {Z : Type 0} → LitmusDraft Z → LitmusReading
litmus_reading_of draft =
    record {
      rows = draft.rows;
      names = names_kept draft.names.items;
      voices = draft.voices.items;
      lines = draft.lines.items;
      before = draft.before;
      repeat = repeat_kept draft.times draft.body.items;
      requirements = draft.requirements.items;
      conditions = draft.conditions.items;
    }

abbrev pub content_in : {Z : Type 0} → LitmusFile Z → LitmusContent
content_in file = record {
  rows = file.rows;
  names = names_kept file.names.items;
  voices = file.voices.items;
  lines = file.lines.items;
  requirements = file.requirements.items;
  conditions = file.conditions.items;
}

-- what is known of a file that was read
pub record IsLitmusFile {Z : Type 0} (file : LitmusFile Z) : Type 0 where
  pub few : length file.names.items ≤ MOST_THREADS
  pub names : AreTexts file.names.items
  pub voices : length file.voices.items ≡ length file.names.items
  pub calls : All (λ numbered. IsLitmusCall numbered.line.command.call) file.lines.items
  pub threads : All (λ numbered. numbered.line.thread < length file.names.items) file.lines.items
  pub forward : GoForward (own_commands (plain_lines file.lines.items))
