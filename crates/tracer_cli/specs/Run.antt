-- A run of the program: what it reads, what it prints, and how it fails.
use Rattle.std.specs.Prelude.{◌≡◌, ◌+◌, ℕ, List, Option, Some, None, Result, Ok, Err, IfSome, IsOk, IsOkAnd}
use Rattle.std.specs.Prelude.{string_bytes, take}
use Rattle.std.specs.Borrow.{Bor}
use Rattle.std.specs.Io.KnownBytes.{Appends}
use Rattle.trace_options.specs.Calls.{Calls}
use Rattle.trace_script.specs.declared.cause.CaseError.{CaseError}
use Rattle.tracer_cli.specs.declared.arguments.Request.{Request}
use Rattle.tracer_cli.specs.declared.arguments.Request.TheVariants.{Replay, Run, Explore, Help}
use Rattle.tracer_cli.specs.declared.arguments.ExploreOptions.{ExploreOptions}
use Rattle.tracer_cli.specs.declared.arguments.RunOptions.{RunOptions}
use Rattle.tracer_cli.specs.declared.failure.Failure.{Failure}
use Rattle.tracer_cli.specs.declared.failure.Failure.TheVariants.{Refused, Usage, NoText, UnknownCall, NoMemory}
use Rattle.tracer_cli.specs.declared.failure.Failure.TheVariants.{CannotRead, CannotWrite, NoThreads, Forbidden}
use Rattle.tracer_cli.specs.Arguments.{AreExploreOptionsOf, AreOptionsOf}
use Rattle.tracer_cli.specs.CaseText.{case_text_of, config_of}
use Rattle.outcome_text.specs.CutOff.{IsBegun, IsCutOff}
use Rattle.tracer_cli.specs.Explored.{PrintsOutcomes}
use Rattle.tracer_cli.specs.Failure.{failure_status, failure_text}
use Rattle.litmus_files.specs.LitmusFile.{litmus_content_of}
use Rattle.trace_script.specs.Reading.{most_bytes}
use Rattle.replay_files.specs.Replay.{replay_of}
use Rattle.tracer_cli.specs.Shown.{AreShown, unknown_name}

-- ---- reading

-- what is read where a reader's bytes are known: one byte more than a file may have, or all
abbrev pub IsReadOf : Option (List ℕ) → List ℕ → Type 0
IsReadOf known read = IfSome known (λ all. read ≡ take (most_bytes + 1) all)

-- a failure to read
abbrev pub IsReadFailure : Failure → Type 0
IsReadFailure CannotRead = Unit {0}
IsReadFailure NoMemory = Unit {0}
IsReadFailure failure = ⊥

-- nothing was read where the command line is wrong or has an unknown name
abbrev pub IsUnread : {A : Type 0} → (before after : A) → Failure → Type 0
IsUnread before after (Usage told) = after ≡ before
IsUnread before after NoText = after ≡ before
IsUnread before after (UnknownCall name) = after ≡ before
IsUnread before after other = Unit {0}

-- nothing is read of standard input for help, nor where a file is named
abbrev pub LeavesInput : {A : Type 0} → Request → (before after : A) → Type 0
LeavesInput (Help text) before after = after ≡ before
LeavesInput (Replay (Some file)) before after = after ≡ before
LeavesInput (Replay None) before after = Unit {0}
LeavesInput (Run options (Some file)) before after = after ≡ before
LeavesInput (Run options None) before after = Unit {0}
LeavesInput (Explore options (Some file)) before after = after ≡ before
LeavesInput (Explore options None) before after = Unit {0}

-- ---- printing, once a file is read

-- a text is written, or a write fails
abbrev pub Writes : (text : List ℕ) → (before after : Option (List ℕ)) → Result (Unit {0}) Failure → Type 0
Writes text before after (Ok done) = Appends before after text
Writes text before after (Err CannotWrite) = IsCutOff before after text
Writes text before after (Err failure) = ⊥

-- the same, if there is memory
abbrev pub WritesIfMemory : (text : List ℕ) → (before after : Option (List ℕ)) → Result (Unit {0}) Failure → Type 0
WritesIfMemory text before after (Err NoMemory) = Unit {0}
WritesIfMemory text before after result = Writes text before after result

-- the text of a file is written, or the file is refused by its first fault; only of a file that is taken can a write
-- fail; or memory runs out
abbrev pub Prints : Result (List ℕ) CaseError → (before after : Option (List ℕ)) → Result (Unit {0}) Failure → Type 0
Prints found before after (Ok done) = IsOkAnd found (Appends before after)
Prints found before after (Err (Refused error)) = found ≡ Err error
Prints found before after (Err CannotWrite) = IsOkAnd found (IsCutOff before after)
Prints found before after (Err NoMemory) = Unit {0}
Prints found before after (Err failure) = ⊥

-- the same of a case; only of a case that is taken can threads fail to start
abbrev pub PrintsCase : Result (List ℕ) CaseError → (before after : Option (List ℕ)) → Result (Unit {0}) Failure
    → Type 0
PrintsCase found before after (Err NoThreads) = IsOk found
PrintsCase found before after result = Prints found before after result

-- ---- from a file to what is printed

-- the replies to a file are printed, or it cannot be read
abbrev pub Replays : (text : List ℕ) → (before after : Option (List ℕ)) → Result (Unit {0}) Failure → Type 0
Replays text before after (Err CannotRead) = Unit {0}
Replays text before after result = Prints (replay_of text) before after result

-- the text of a case is printed, with the calls that are named; or no system call has one of the names; or all names
-- are known, and the case cannot be read
abbrev pub Runs : RunOptions → (text : List ℕ) → (before after : Option (List ℕ)) → Result (Unit {0}) Failure → Type 0
Runs options text before after (Err (UnknownCall name)) = unknown_name options.names ≡ Some (string_bytes name)
Runs options text before after (Err CannotRead) = unknown_name options.names ≡ None
Runs options text before after (Err NoMemory) = Unit {0}
Runs options text before after result =
    (unknown_name options.names ≡ None)
    × ((calls : Calls) × AreShown options.names calls
    × PrintsCase (case_text_of (config_of options calls) text) before after result)

-- the same by the options that words name, if there is memory
abbrev pub RunsNamed : (words : List (List ℕ)) → (text : List ℕ) → (before after : Option (List ℕ))
    → Result (Unit {0}) Failure → Type 0
RunsNamed words text before after (Err NoMemory) = Unit {0}
RunsNamed words text before after result =
    (options : RunOptions) × AreOptionsOf words options × Runs options text before after result

-- the outcomes of a litmus file are printed, or it cannot be read
abbrev pub Explores : ExploreOptions → (text : List ℕ) → (before after : Option (List ℕ)) → Result (Unit {0}) Failure
    → Type 0
Explores options text before after (Err CannotRead) = Unit {0}
Explores options text before after result = PrintsOutcomes options (litmus_content_of text) before after result

-- the same by the options that words name, if there is memory
abbrev pub ExploresNamed : (words : List (List ℕ)) → (text : List ℕ) → (before after : Option (List ℕ))
    → Result (Unit {0}) Failure → Type 0
ExploresNamed words text before after (Err NoMemory) = Unit {0}
ExploresNamed words text before after result =
    (options : ExploreOptions) × AreExploreOptionsOf words options × Explores options text before after result

-- what may be read of the file that a request names, of which nothing is known, or of standard input
abbrev pub MayBeRead : (file : Option (Bor (List ℕ))) → (input : Option (List ℕ)) → (text : List ℕ) → Type 0
MayBeRead None input text = IfSome input (λ all. text ≡ all)
MayBeRead (Some path) input text = Unit {0}

-- help is printed, or what may be read is replayed, run or explored
abbrev pub AnswersRequest : Request → (input : Option (List ℕ)) → (before after : Option (List ℕ))
    → Result (Unit {0}) Failure → Type 0
AnswersRequest (Help text) input before after result = Writes (string_bytes text) before after result
AnswersRequest (Replay file) input before after result =
    (text : List ℕ) × MayBeRead file input text × Replays text before after result
AnswersRequest (Run options file) input before after result =
    (text : List ℕ) × MayBeRead file input text × Runs options text before after result
AnswersRequest (Explore options file) input before after result =
    (text : List ℕ) × MayBeRead file input text × Explores options text before after result

-- ---- how the program ends

-- nothing was written, unless the run is done, a write failed, or the answer is that the replies are forbidden
abbrev pub IsUnwritten : {A : Type 0} → (before after : A) → Result (Unit {0}) Failure → Type 0
IsUnwritten before after (Ok done) = Unit {0}
IsUnwritten before after (Err CannotWrite) = Unit {0}
IsUnwritten before after (Err Forbidden) = Unit {0}
IsUnwritten before after (Err failure) = after ≡ before

-- the exit status of a run
abbrev pub run_status : Result (Unit {0}) Failure → ℕ
run_status (Ok done) = 0
run_status (Err failure) = failure_status failure

-- what standard error has of a result: nothing where the run is done, else a beginning of the failure's text
abbrev pub IsReported : (before after : Option (List ℕ)) → Result (Unit {0}) Failure → Type 0
IsReported before after (Ok done) = after ≡ before
IsReported before after (Err failure) = IsBegun before after (failure_text failure)

-- the program ends with the exit status of a result that this holds of, and reports it: it is done, or it failed
abbrev pub Ends : (Result (Unit {0}) Failure → Type 0) → (before after : Option (List ℕ)) → (status : ℕ) → Type 0
Ends Holds before after status =
    (ended : Result (Unit {0}) Failure) × Holds ended × IsReported before after ended × (status ≡ run_status ended)
