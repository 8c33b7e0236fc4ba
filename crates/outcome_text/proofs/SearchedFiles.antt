-- What is found of the program of a litmus file, by the commands of each thread.
use Rattle.std.proofs.Common.{refl, ◌≡◌, ◌∙◌, ◌<◌, ◌≤◌, ◌==◌, ℕ, Bool, true, false, not, List, Option}
use Rattle.std.proofs.Common.{ap, arith, length, subst, sym}
use Rattle.std.proofs.Math.Path.{fun_ext}
use Rattle.std.proofs.lemmas.List.Elements.{All-filter, All-map, All-same, All-weaker}
use Rattle.std.specs.List.{All, list_any}
use Rattle.std.specs.Prelude.{Result, filter}
use Rattle.stop_history.specs.Event.{History}
use Rattle.stop_history.specs.declared.roster.Row.{Row}
use Rattle.stop_program.specs.declared.command.ProgramLine.{ProgramLine}
use Rattle.stop_program.specs.declared.command.ThreadCommand.{ThreadCommand}
use Rattle.stop_program.specs.declared.voice.Voice.{Voice}
use Rattle.stop_program.specs.BoardCall.{IsBoardCall}
use Rattle.stop_program.specs.Order.{AreOrdered}
use Rattle.stop_program.specs.Places.{HasMorePlaces, HasPlaces}
use Rattle.stop_program.specs.Program.{Log, is_line_of, own_commands}
use Rattle.stop_program.specs.Progress.{is_quiet}
use Rattle.stop_program.specs.Run.{AreDistinct, AreEndings, EndedRun, HasOutcome, IsRun, ended_run}
use Rattle.litmus_files.specs.declared.file.LitmusFile.{LitmusFile}
use Rattle.litmus_files.specs.declared.required.Condition.{Condition}
use Rattle.litmus_files.specs.declared.required.NumberedLine.{NumberedLine}
use Rattle.litmus_files.specs.LitmusDraft.{IsLitmusFile, content_in}
use Rattle.litmus_files.specs.LitmusFile.{LitmusContent}
use Rattle.litmus_files.specs.LitmusGrammar.{IsLitmusCall}
use Rattle.litmus_files.specs.Required.{conditions_with, program_with}
use Rattle.litmus_files.proofs.LitmusFiles.{length_kept}
use Rattle.litmus_files.proofs.LitmusPlaces.{AreKnown}
use Rattle.outcome_text.specs.declared.print_error.PrintError.{PrintError}
use Rattle.outcome_text.specs.Chosen.{chosen_of, is_chosen}
use Rattle.outcome_text.specs.OutcomeOrder.{HaveCalls}
use Rattle.outcome_text.specs.OutcomeText.{chosen_text}
use Rattle.outcome_text.specs.Printed.{IsPrintedIfMemory}
use Rattle.outcome_text.specs.Searched.{AreOutcomes, HasMorePlacesWith, all_required, all_text, chosen_with}
use Rattle.outcome_text.specs.Searched.{commands_with, have_numbers_to, is_chosen_with}
use Rattle.outcome_text.proofs.Unmet.{program_within}

-- ---- what a search finds, by the commands of each thread

pub record AreFound (rows : List Row) (voices : List Voice) (threads : ℕ) (own : ℕ → List ThreadCommand)
    (found : List EndedRun) (places : ℕ) : Type 0 where
  pub complete : (run : Log) (last : History) → IsRun rows own run last
      → HasOutcome (is_quiet voices) own found (ended_run rows run last)
  pub sound : AreEndings rows threads own found
  pub distinct : AreDistinct (is_quiet voices) own found
  pub ordered : AreOrdered rows (is_quiet voices) own found
  pub counted : HasPlaces rows (is_quiet voices) own places

abbrev pub AreFoundBy : LitmusContent → (own : ℕ → List ThreadCommand) → List EndedRun → (places : ℕ) → Type 0
AreFoundBy content own found places = AreFound content.rows content.voices (length content.names) own found places

pub outcomes_of : (content : LitmusContent) (count places : ℕ) (found : List EndedRun)
    → AreFoundBy content (commands_with content count) found places → AreOutcomes content count found places
outcomes_of content count places found all =
    record {
      complete = all.complete;
      sound = all.sound;
      distinct = all.distinct;
      ordered = all.ordered;
      counted = all.counted;
    }

found_of_outcomes : (content : LitmusContent) (count places : ℕ) (found : List EndedRun)
    → AreOutcomes content count found places → AreFoundBy content (commands_with content count) found places
found_of_outcomes content count places found all =
    record {
      complete = all.complete;
      sound = all.sound;
      distinct = all.distinct;
      ordered = all.ordered;
      counted = all.counted;
    }

-- where places have a number that is within the budget, they are not more than the budget
pub not_more_with : (content : LitmusContent) (count budget places : ℕ) (voices : List Voice)
    (own : ℕ → List ThreadCommand) → own ≡ commands_with content count → voices ≡ content.voices
    → HasPlaces content.rows (is_quiet voices) own places → places ≤ budget
    → ((rows : List Row) (quiet : ℕ → Bool) (commands : ℕ → List ThreadCommand) (number most : ℕ)
    → HasPlaces rows quiet commands number → HasMorePlaces rows quiet commands most → most < number)
    → HasMorePlacesWith content count budget → ⊥
not_more_with content count budget places voices own own_are voices_are counted within law more =
    let has : HasPlaces content.rows (is_quiet content.voices) (commands_with content count) places =
    subst (λ v. HasPlaces content.rows (is_quiet v) (commands_with content count) places) voices_are
    (subst (λ o. HasPlaces content.rows (is_quiet voices) o places) own_are counted) in
    let above = law content.rows (is_quiet content.voices) (commands_with content count) places budget has more in
    omega (arith, above, within)

-- more places than a budget are found of the same program
pub more_with : (content : LitmusContent) (count budget : ℕ) (voices : List Voice) (own : ℕ → List ThreadCommand)
    → own ≡ commands_with content count → voices ≡ content.voices
    → HasMorePlaces content.rows (is_quiet voices) own budget → HasMorePlacesWith content count budget
more_with content count budget voices own own_are voices_are more =
    subst (λ v. HasMorePlaces content.rows (is_quiet v) (commands_with content count) budget) voices_are
    (subst (λ o. HasMorePlaces content.rows (is_quiet voices) o budget) own_are more)

-- a search with more requirements tells of fewer, where these have all replies
pub outcomes_within : (content : LitmusContent) (count more places : ℕ) (found : List EndedRun) → count ≤ more
    → have_numbers_to count content.lines ≡ true → AreOutcomes content more found places
    → AreOutcomes content count found places
outcomes_within content count more places found few within all =
    outcomes_of content count places found
    (subst (λ p. AreFoundBy content (own_commands p) found places)
    (sym (program_within count more content.lines few within)) (found_of_outcomes content more places found all))

-- what is known of the lines of a file that was read
pub known_of : {Z : Type 0} (file : LitmusFile Z) → IsLitmusFile file → AreKnown (content_in file)
known_of file known = record {
  threads = subst (λ n. All (λ (l : NumberedLine). l.line.thread < n) file.lines.items)
      (sym (length_kept file.names.items)) known.threads;
  forward = known.forward;
}

-- ---- which outcomes are chosen

test_is : (content : LitmusContent) (count threads : ℕ) (lists : ℕ → List ThreadCommand) (conditions : List Condition)
    → threads ≡ length content.names → ((thread : ℕ) → lists thread ≡ commands_with content count thread)
    → conditions ≡ conditions_with count content.conditions
    → is_chosen threads lists conditions ≡ is_chosen_with content count
test_is content count threads lists conditions long own conditions_are =
    ap (λ n. is_chosen n lists conditions) long
    ∙ ap (λ l. is_chosen (length content.names) l conditions) (fun_ext own)
    ∙ ap (λ c. is_chosen (length content.names) (commands_with content count) c) conditions_are

pub some_chosen_is : (content : LitmusContent) (count threads : ℕ) (lists : ℕ → List ThreadCommand)
    (conditions : List Condition) (found : List EndedRun) → threads ≡ length content.names
    → ((thread : ℕ) → lists thread ≡ commands_with content count thread)
    → conditions ≡ conditions_with count content.conditions
    → list_any (is_chosen threads lists conditions) found ≡ list_any (is_chosen_with content count) found
some_chosen_is content count threads lists conditions found long own conditions_are =
    ap (λ test. list_any test found) (test_is content count threads lists conditions long own conditions_are)

pub chosen_is : (content : LitmusContent) (count threads : ℕ) (lists : ℕ → List ThreadCommand)
    (conditions : List Condition) (found : List EndedRun) → threads ≡ length content.names
    → ((thread : ℕ) → lists thread ≡ commands_with content count thread)
    → conditions ≡ conditions_with count content.conditions
    → chosen_of threads lists conditions found ≡ chosen_with content count found
chosen_is content count threads lists conditions found long own conditions_are =
    ap (λ test. filter test found) (test_is content count threads lists conditions long own conditions_are)

-- the same commands with fewer requirements, where these have all replies
pub commands_within : (content : LitmusContent) (count more : ℕ) (lists : ℕ → List ThreadCommand) → count ≤ more
    → have_numbers_to count content.lines ≡ true
    → ((thread : ℕ) → lists thread ≡ commands_with content more thread) → (thread : ℕ)
    → lists thread ≡ commands_with content count thread
commands_within content count more lists few within own thread =
    own thread ∙ sym (ap (λ p. own_commands p thread) (program_within count more content.lines few within))

pub have_calls : (lists : ℕ → List ThreadCommand) (lines : List ProgramLine)
    → ((thread : ℕ) → lists thread ≡ own_commands lines thread) → All (λ line. IsLitmusCall line.command.call) lines
    → HaveCalls lists
have_calls lists lines same calls thread =
    let Has : ThreadCommand → Type 0 = λ command. IsBoardCall command.call in
    let LineHas : ProgramLine → Type 0 = λ line. IsBoardCall line.command.call in
    let Calls : ProgramLine → Type 0 = λ line. IsLitmusCall line.command.call in
    All-same Has (lists thread) (own_commands lines thread) (same thread)
    (All-map Has (λ (line : ProgramLine). line.command) (filter (is_line_of thread) lines)
    (All-filter (is_line_of thread) LineHas lines (All-weaker Calls LineHas (λ line known. known.0) lines calls)))

-- ---- all outcomes

pub texts_are : (content : LitmusContent) (threads places : ℕ) (lists : ℕ → List ThreadCommand)
    (conditions : List Condition) (rows : List Row) (names : List (Option (List ℕ))) (voices : List Voice)
    (required : Bool) (found : List EndedRun) (text : List ℕ) → rows ≡ content.rows → names ≡ content.names
    → voices ≡ content.voices → threads ≡ length content.names
    → ((thread : ℕ) → lists thread ≡ commands_with content (all_required content) thread)
    → conditions ≡ conditions_with (all_required content) content.conditions
    → required ≡ not (all_required content == 0)
    → text ≡ chosen_text rows names voices lists required places (chosen_of threads lists conditions found)
    → text ≡ all_text false content places (chosen_with content (all_required content) found)
texts_are content threads places lists conditions rows names voices required found text rows_are names_are voices_are
    long own conditions_are required_is is =
    let chosen : List EndedRun = chosen_of threads lists conditions found in
    is ∙ ap (λ r. chosen_text r names voices lists required places chosen) rows_are
    ∙ ap (λ n. chosen_text content.rows n voices lists required places chosen) names_are
    ∙ ap (λ v. chosen_text content.rows content.names v lists required places chosen) voices_are
    ∙ ap (λ l. chosen_text content.rows content.names content.voices l required places chosen) (fun_ext own)
    ∙ ap (λ q. chosen_text content.rows content.names content.voices
    (commands_with content (all_required content)) q places chosen) required_is
    ∙ ap (all_text false content places)
    (chosen_is content (all_required content) threads lists conditions found long own conditions_are)

pub printed_are : (content : LitmusContent) (threads places : ℕ) (lists : ℕ → List ThreadCommand)
    (conditions : List Condition) (rows : List Row) (names : List (Option (List ℕ))) (voices : List Voice)
    (required : Bool) (found : List EndedRun) (before after : Option (List ℕ)) (result : Result (Unit {0}) PrintError)
    → rows ≡ content.rows → names ≡ content.names → voices ≡ content.voices → threads ≡ length content.names
    → ((thread : ℕ) → lists thread ≡ commands_with content (all_required content) thread)
    → conditions ≡ conditions_with (all_required content) content.conditions
    → required ≡ not (all_required content == 0)
    → IsPrintedIfMemory (chosen_text rows names voices lists required places (chosen_of threads lists conditions found))
    before after result
    → IsPrintedIfMemory (all_text false content places (chosen_with content (all_required content) found))
    before after result
printed_are content threads places lists conditions rows names voices required found before after result rows_are
    names_are voices_are long own conditions_are required_is writes =
    subst (λ t. IsPrintedIfMemory t before after result)
    (texts_are content threads places lists conditions rows names voices required found _ rows_are names_are voices_are
    long own conditions_are required_is refl) writes
