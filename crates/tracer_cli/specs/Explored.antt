-- What `tracer explore` prints of a litmus file: the outcomes of its program, how they end, or the order of one of
-- them.
use Rattle.std.specs.Prelude.{◌≡◌, ◌≤◌, ℕ, Bool, true, false, List, Option, Some, None, Result, Ok, Err, IsOkAnd}
use Rattle.std.specs.Prelude.{if◌then◌else◌}
use Rattle.std.specs.Io.KnownBytes.{Appends}
use Rattle.stop_program.specs.Run.{EndedRun}
use Rattle.trace_script.specs.declared.cause.CaseError.{CaseError}
use Rattle.tracer_cli.specs.declared.arguments.ExploreOptions.{ExploreOptions}
use Rattle.tracer_cli.specs.declared.arguments.Listing.{Listing}
use Rattle.tracer_cli.specs.declared.arguments.Listing.TheVariants as listing
use Rattle.tracer_cli.specs.declared.failure.Failure.{Failure}
use Rattle.tracer_cli.specs.declared.failure.Failure.TheVariants.{CannotWrite, Forbidden, NoMemory, NoOutcome, Refused}
use Rattle.tracer_cli.specs.declared.failure.Failure.TheVariants.{TooManyPlaces}
use Rattle.outcome_text.specs.CutOff.{IsCutOff}
use Rattle.litmus_files.specs.LitmusFile.{LitmusContent}
use Rattle.outcome_text.specs.OutcomeOrder.{outcome_replay}
use Rattle.outcome_text.specs.Halving.{IsForbiddenText}
use Rattle.outcome_text.specs.Searched.{AreOutcomes, CanMeet, HasMorePlacesWith, all_required, all_text, chosen_with}
use Rattle.outcome_text.specs.Searched.{commands_with, forbids}

-- ---- what is shown

-- the number of the one outcome that is asked for, if one is
abbrev pub number_asked : Listing → Option ℕ
number_asked (listing.Replay number) = Some number
number_asked other = None

abbrev pub shows_ends : Listing → Bool
shows_ends listing.Ends = true
shows_ends other = false

-- all of them, or the order of one of them; None: there are none, or there is no such outcome
abbrev pub listed_text : Listing → LitmusContent → (places : ℕ) → (chosen : List EndedRun) → Option (List ℕ)
listed_text (listing.Replay number) content places chosen =
    outcome_replay content.rows (commands_with content (all_required content)) number chosen
listed_text other content places chosen =
    if forbids content.requirements chosen then None else Some (all_text (shows_ends other) content places chosen)

abbrev pub asked_text : Listing → LitmusContent → List EndedRun → (places : ℕ) → Option (List ℕ)
asked_text asked content found places =
    listed_text asked content places (chosen_with content (all_required content) found)

-- a text that is shown of a program
pub record IsListed (options : ExploreOptions) (content : LitmusContent) (text : List ℕ) : Type 0 where
  pub found : List EndedRun
  pub places : ℕ
  pub all : AreOutcomes content (all_required content) found places
  pub few : places ≤ options.budget
  pub shows : asked_text options.listing content found places ≡ Some text

-- a text that says that no run has all that the file requires
pub record IsForbidden (options : ExploreOptions) (content : LitmusContent) (text : List ℕ) : Type 0 where
  pub lists : number_asked options.listing ≡ None
  pub few : ¬ HasMorePlacesWith content (all_required content) options.budget
  pub unmet : ¬ CanMeet content (all_required content)
  pub says : IsForbiddenText options.budget content text

abbrev pub IsShown : ExploreOptions → LitmusContent → (text : List ℕ) → (forbidden : Bool) → Type 0
IsShown options content text false = IsListed options content text
IsShown options content text true = IsForbidden options content text

-- a program has no outcome of the number that is asked for
pub record HasNoOutcome (options : ExploreOptions) (content : LitmusContent) (number : ℕ) : Type 0 where
  pub found : List EndedRun
  pub places : ℕ
  pub all : AreOutcomes content (all_required content) found places
  pub few : places ≤ options.budget
  pub asked : options.listing ≡ listing.Replay number
  pub none : asked_text options.listing content found places ≡ None

-- why nothing is shown of a file: it is refused by its first fault; its program has more places than are searched, or
-- no such outcome; or memory runs out
abbrev pub IsUnshown : ExploreOptions → (read : Result LitmusContent CaseError) → Failure → Type 0
IsUnshown options read (Refused error) = read ≡ Err error
IsUnshown options read TooManyPlaces =
    IsOkAnd read (λ content. HasMorePlacesWith content (all_required content) options.budget)
IsUnshown options read (NoOutcome number) = IsOkAnd read (λ content. HasNoOutcome options content number)
IsUnshown options read NoMemory = Unit {0}
IsUnshown options read failure = ⊥

-- ---- what is printed

-- a text is written, or a write fails; that what the file requires is forbidden is said by the end
abbrev pub WritesShown : (text : List ℕ) → (forbidden : Bool) → (before after : Option (List ℕ))
    → Result (Unit {0}) Failure → Type 0
WritesShown text false before after (Ok done) = Appends before after text
WritesShown text true before after (Err Forbidden) = Appends before after text
WritesShown text forbidden before after (Err CannotWrite) = IsCutOff before after text
WritesShown text forbidden before after other = ⊥

-- what is shown of a file is written
abbrev pub WritesSome : ExploreOptions → (read : Result LitmusContent CaseError) → (before after : Option (List ℕ))
    → Result (Unit {0}) Failure → Type 0
WritesSome options read before after result =
    IsOkAnd read (λ content. (text : List ℕ) × ((forbidden : Bool) × IsShown options content text forbidden
    × WritesShown text forbidden before after result))

abbrev pub PrintsOutcomes : ExploreOptions → (read : Result LitmusContent CaseError)
    → (before after : Option (List ℕ)) → Result (Unit {0}) Failure → Type 0
PrintsOutcomes options read before after (Ok done) = WritesSome options read before after (Ok done)
PrintsOutcomes options read before after (Err Forbidden) = WritesSome options read before after (Err Forbidden)
PrintsOutcomes options read before after (Err CannotWrite) = WritesSome options read before after (Err CannotWrite)
PrintsOutcomes options read before after (Err failure) = IsUnshown options read failure
