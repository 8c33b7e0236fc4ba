-- A command line: how it is answered, and what the exit status says of its words.
use Rattle.std.specs.Prelude.{◌≡◌, ◌⊎◌, ℕ, List, Option, Some, Result, Ok, Err}
use Rattle.tracer_cli.specs.declared.arguments.Request.{Request}
use Rattle.tracer_cli.specs.declared.arguments.RunOptions.{RunOptions}
use Rattle.tracer_cli.specs.declared.failure.Failure.{Failure}
use Rattle.tracer_cli.specs.Arguments.{AreOptionsOf, AskText, Contradict, HaveNoFault, HaveReportedFault}
use Rattle.tracer_cli.specs.Arguments.{HaveShownFault, IsAskedBy, MayContradict}
use Rattle.tracer_cli.specs.Run.{AnswersRequest}
use Rattle.tracer_cli.specs.Shown.{unknown_name}

-- what is asked for is done or fails; where nothing is, that is the failure
abbrev pub AnswersAsked : Result Request Failure → (input before after : Option (List ℕ))
    → Result (Unit {0}) Failure → Type 0
AnswersAsked (Ok request) input before after result = AnswersRequest request input before after result
AnswersAsked (Err failure) input before after result = result ≡ Err failure

-- words are answered by what they ask for
pub record AnswersWords (words : List (List ℕ)) (input before after : Option (List ℕ))
    (result : Result (Unit {0}) Failure) : Type 0 where
  pub asked : Result Request Failure
  pub is_asked : IsAskedBy words asked
  pub answers : AnswersAsked asked input before after result

-- words of a run with a name that no system call has
abbrev pub NameUnknownCall : (words : List (List ℕ)) → Type 0
NameUnknownCall words = HaveNoFault words × ((options : RunOptions) × AreOptionsOf words options
    × ((name : List ℕ) × (unknown_name options.names ≡ Some name)))

-- what the exit status says of the words, and they of it
pub record IsExitStatusOf (words : List (List ℕ)) (status : ℕ) : Type 0 where
  -- it is done, or help or the version was shown
  pub done : status ≡ 0 → HaveNoFault words ⊎ HaveShownFault words
  -- the file is refused, or no outcome is as it has to be
  pub answered : (status ≡ 1) ⊎ (status ≡ 4) → HaveNoFault words
  -- the command line is wrong
  pub wrong : status ≡ 2 → HaveReportedFault words ⊎ (MayContradict words ⊎ NameUnknownCall words)
  pub contradictory : Contradict words → (status ≡ 2) ⊎ (status ≡ 3)
  pub shown : AskText words → (status ≡ 0) ⊎ (status ≡ 3)
