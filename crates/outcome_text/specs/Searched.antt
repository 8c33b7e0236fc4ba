-- What is found of the program of a litmus file with the first n of what the file requires, and the texts of what is
-- found.
use Rattle.std.specs.Prelude.{◌≡◌, ◌≤◌, ◌&&◌, ◌==◌, ℕ, Bool, true, false, not, nat_le, List, length}
use Rattle.std.specs.List.{list_all}
use Rattle.stop_history.specs.Event.{History}
use Rattle.stop_program.specs.declared.command.ThreadCommand.{ThreadCommand}
use Rattle.stop_program.specs.Order.{AreOrdered}
use Rattle.stop_program.specs.Places.{HasMorePlaces, HasPlaces}
use Rattle.stop_program.specs.Program.{Log, own_commands}
use Rattle.stop_program.specs.Progress.{is_quiet}
use Rattle.stop_program.specs.Run.{AreDistinct, AreEndings, EndedRun, HasOutcome, IsRun, ended_run}
use Rattle.stop_program.specs.Threads.{commands_in}
use Rattle.outcome_text.specs.declared.searched.Searched.{Searched}
use Rattle.litmus_files.specs.declared.required.NumberedLine.{NumberedLine}
use Rattle.outcome_text.specs.Chosen.{chosen_of, is_chosen}
use Rattle.litmus_files.specs.LitmusFile.{LitmusContent}
use Rattle.outcome_text.specs.OutcomeEnds.{ends_text}
use Rattle.outcome_text.specs.OutcomeText.{chosen_text}
use Rattle.litmus_files.specs.Required.{conditions_with, program_with}

-- ---- programs, with the first n of the replies and conditions of their file

abbrev pub commands_with : LitmusContent → (count : ℕ) → (thread : ℕ) → List ThreadCommand
commands_with content count = own_commands (program_with count content.lines)

-- a run has these replies, and these conditions hold where it ends
abbrev pub is_chosen_with : LitmusContent → (count : ℕ) → EndedRun → Bool
is_chosen_with content count ending =
    is_chosen (length content.names) (commands_with content count) (conditions_with count content.conditions) ending

abbrev pub chosen_with : LitmusContent → (count : ℕ) → List EndedRun → List EndedRun
chosen_with content count found =
    chosen_of (length content.names) (commands_with content count) (conditions_with count content.conditions) found

-- the replies of all commands are among them
abbrev pub have_numbers_to : (count : ℕ) → List NumberedLine → Bool
have_numbers_to count lines = list_all (λ numbered. nat_le numbered.number count) lines

-- all of them
abbrev pub all_required : LitmusContent → ℕ
all_required content = length content.requirements

-- ---- what is found

-- the outcomes of a program: each run has one of them, each is a run's, no two are one, and they are in order, each by
-- its least run, so there is one such list (`outcomes_are_determined` of `stop_program`); and the number of the places
-- that its runs come by
pub record AreOutcomes (content : LitmusContent) (count : ℕ) (found : List EndedRun) (places : ℕ) : Type 0 where
  pub complete : (run : Log) (last : History) → IsRun content.rows (commands_with content count) run last
      → HasOutcome (is_quiet content.voices) (commands_with content count) found (ended_run content.rows run last)
  pub sound : AreEndings content.rows (length content.names) (commands_with content count) found
  pub distinct : AreDistinct (is_quiet content.voices) (commands_with content count) found
  pub ordered : AreOrdered content.rows (is_quiet content.voices) (commands_with content count) found
  pub counted : HasPlaces content.rows (is_quiet content.voices) (commands_with content count) places

abbrev pub HasMorePlacesWith : LitmusContent → (count budget : ℕ) → Type 0
HasMorePlacesWith content count budget =
    HasMorePlaces content.rows (is_quiet content.voices) (commands_with content count) budget

-- what a search keeps is what it found, beside the commands and the conditions that it found it of
pub record IsSearched (content : LitmusContent) (budget count : ℕ) (searched : Searched) : Type 0 where
  pub threads : length searched.commands.items ≡ length content.names
  pub commands : (thread : ℕ) → commands_in searched.commands.items thread ≡ commands_with content count thread
  pub conditions : searched.conditions.items ≡ conditions_with count content.conditions
  pub all : AreOutcomes content count searched.explored.runs searched.explored.places
  pub few : searched.explored.places ≤ budget

-- ---- what a file requires

-- some run has the first n of its replies and conditions
pub record CanMeet (content : LitmusContent) (count : ℕ) : Type 0 where
  pub run : Log
  pub last : History
  pub is_run : IsRun content.rows (commands_with content count) run last
  pub met : is_chosen_with content count (ended_run content.rows run last) ≡ true

-- ---- what is shown

-- a file requires something, and no outcome has all of it
abbrev pub forbids : (requirements : List ℕ) → (chosen : List EndedRun) → Bool
forbids requirements chosen = not (length requirements == 0) && (length chosen == 0)

-- the outcomes that have all that the file requires, or how they end
abbrev pub all_text : (ends : Bool) → LitmusContent → (places : ℕ) → (chosen : List EndedRun) → List ℕ
all_text true content places chosen =
    ends_text content.rows content.names (commands_with content (all_required content))
    (not (all_required content == 0)) places chosen
all_text false content places chosen =
    chosen_text content.rows content.names content.voices (commands_with content (all_required content))
    (not (all_required content == 0)) places chosen
