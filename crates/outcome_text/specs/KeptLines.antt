-- The lines of turns, kept for turns that come again.
use Rattle.std.specs.Prelude.{◌≡◌, ℕ, List, Option, None, Some, slice_get}
use Rattle.std.specs.List.{All}
use Rattle.stop_history.specs.declared.roster.Row.{Row}
use Rattle.stop_program.specs.declared.command.ThreadCommand.{ThreadCommand}
use Rattle.outcome_text.specs.declared.kept_lines.DoneAt.{DoneAt}
use Rattle.outcome_text.specs.OutcomeText.{done_line, name_at, turn_line}

-- a line, alone and as the order has it with the thread's name, and the turn that it was made of, if there is one yet
pub record LineText : Type 0 where
  pub made : Option DoneAt
  pub line : List ℕ
  pub named : List ℕ

-- the lines of a turn that did a command
abbrev pub kept_text : List Row → (names : List (Option (List ℕ))) → DoneAt → ThreadCommand → LineText
kept_text rows names done command = record {
  made = Some done;
  line = done_line rows done.turn (Some command);
  named = turn_line rows (name_at names done.turn.thread) done.turn (Some command);
}

-- they are the lines of its turn
abbrev pub IsLineKept : List Row → (names : List (Option (List ℕ))) → (commands : ℕ → List ThreadCommand) → LineText
    → Type 0
IsLineKept rows names commands kept = (done : DoneAt) (command : ThreadCommand) → kept.made ≡ Some done
    → slice_get (commands done.turn.thread) done.at ≡ Some command → kept ≡ kept_text rows names done command

abbrev pub AreLinesKept : List Row → (names : List (Option (List ℕ))) → (commands : ℕ → List ThreadCommand)
    → List LineText → Type 0
AreLinesKept rows names commands lines = All (IsLineKept rows names commands) lines

-- of no turn
abbrev pub IsEmptyLine : LineText → Type 0
IsEmptyLine kept = kept.made ≡ None
