-- What is read of a file is cut after the byte that makes it too long, and so is refused as the whole file is; a job
-- that is done answers its request.
use Rattle.std.proofs.Common.{refl, ◌≡◌, ◌+◌, ◌≤◌, ◌++◌, [], ℕ, Bool, true, false, List, Option, Some, None, Result}
use Rattle.std.proofs.Common.{Ok, Err, IfSome, length, nat_le, leb-true, take, min, arith, ap, sym, subst, ◌∙◌, Bor}
use Rattle.std.proofs.Common.{length-take}
use Rattle.std.proofs.lemmas.Bool.Decides.{nat_tests}
use Rattle.std.proofs.lemmas.List.{take_all}
use Rattle.std.specs.Option.{option_map}
use Rattle.tracer_cli.specs.declared.arguments.Request.TheVariants.{Replay, Run, Explore, Help}
use Rattle.tracer_cli.specs.declared.arguments.ExploreOptions.{ExploreOptions}
use Rattle.tracer_cli.specs.declared.arguments.Request.{Request}
use Rattle.tracer_cli.specs.declared.arguments.RunOptions.{RunOptions}
use Rattle.tracer_cli.specs.declared.job.Job.{Job}
use Rattle.tracer_cli.specs.declared.job.Job.TheVariants as job
use Rattle.trace_script.specs.declared.cause.Cause.TheVariants.{TooMany}
use Rattle.trace_script.specs.declared.cause.CaseError.{CaseError}
use Rattle.trace_script.specs.CaseFile.{CaseContent, case_of}
use Rattle.text_lines.specs.Ranges.{◌>>=◌}
use Rattle.tracer_workers.specs.Config.{plain, text_of}
use Rattle.tracer_workers.specs.declared.config.Config.{Config}
use Rattle.tracer_cli.specs.declared.failure.Failure.{Failure}
use Rattle.tracer_cli.specs.declared.failure.Failure.TheVariants.{UnknownCall, NoMemory}
use Rattle.tracer_cli.specs.declared.failure.Failure.TheVariants.{CannotRead, CannotWrite, Forbidden}
use Rattle.trace_script.specs.Reading.{most_bytes}
use Rattle.tracer_cli.specs.CaseText.{HasConfig, case_text_of, config_of}
use Rattle.tracer_cli.specs.Explored.{PrintsOutcomes}
use Rattle.replay_files.specs.File.{content_of}
use Rattle.tracer_cli.specs.Job.{HasNoJob, IsDone, IsJob}
use Rattle.litmus_files.specs.LitmusFile.{LitmusContent, litmus_content_of}
use Rattle.replay_files.specs.Replay.{replay_of, text_from}
use Rattle.tracer_cli.specs.Run.{AnswersRequest, Ends, Explores, IsReported, MayBeRead, run_status}
use Rattle.tracer_cli.specs.Run.{IsReadFailure, IsReadOf, IsUnwritten, Prints}
use Rattle.tracer_cli.specs.Run.{PrintsCase, Replays, Runs, Writes}
use Rattle.tracer_cli.specs.Shown.{unknown_name}

-- a reader's bytes up to a limit
up_to : (known : Option (List ℕ)) (limit most : ℕ) (old new : List ℕ) → limit ≡ most → old ≡ []
    → IfSome (option_map (take limit) known) (λ xs. new ≡ old ++ xs) → IfSome known (λ all. new ≡ take most all)
up_to None limit most old new at_most none read = tt
up_to (Some all) limit most old new at_most none read = read ∙ ap (λ (o : List ℕ). o ++ take limit all) none
    ∙ ap (λ n. take n all) at_most

pub read_to_limit : (known inner : Option (List ℕ)) (limit most : ℕ) (old new : List ℕ) → inner ≡ known → limit ≡ most
    → old ≡ []
    → IfSome (option_map (take limit) inner) (λ xs. new ≡ old ++ xs) → IfSome known (λ all. new ≡ take most all)
read_to_limit known inner limit most old new same at_most none read =
    let P : Option (List ℕ) → Type 0 = λ k. IfSome k (λ all. new ≡ take most all) in
    subst P same (up_to inner limit most old new at_most none read)

abbrev too_long : CaseError
too_long = record { line = 1; cause = TooMany }

content_too_long : (text : List ℕ) → nat_le (length text) most_bytes ≡ false → content_of text ≡ Err too_long
content_too_long text long = rw long

replay_too_long : (text : List ℕ) → nat_le (length text) most_bytes ≡ false → replay_of text ≡ Err too_long
replay_too_long text long = ap text_from (content_too_long text long)

case_too_long : (text : List ℕ) → nat_le (length text) most_bytes ≡ false → case_of text ≡ Err too_long
case_too_long text long = rw long refl

litmus_too_long : (text : List ℕ) → nat_le (length text) most_bytes ≡ false → litmus_content_of text ≡ Err too_long
litmus_too_long text long = rw long refl

few_enough : (n most : ℕ) → nat_le n most ≡ true → n ≤ most + 1
few_enough n most fits = let few : n ≤ most = leb-true n most fits in omega arith

still_long : (n most cut : ℕ) → nat_le n most ≡ false → cut ≡ min (most + 1) n → nat_le cut most ≡ false
still_long n most cut long size = grind (arith, nat_tests)

-- what is said of a text that is cut after one byte too many
cut_alike : {X : Type 0} (said : List ℕ → Result X CaseError)
    → ((text : List ℕ) → nat_le (length text) most_bytes ≡ false → said text ≡ Err too_long)
    → (text : List ℕ) (fits : Bool) → nat_le (length text) most_bytes ≡ fits
    → said (take (most_bytes + 1) text) ≡ said text
cut_alike said refused text true fits =
    ap said (take_all (most_bytes + 1) text (few_enough (length text) most_bytes fits))
cut_alike said refused text false long =
    let still =
    still_long (length text) most_bytes (length (take (most_bytes + 1) text)) long
    (length-take (most_bytes + 1) text) in
    refused (take (most_bytes + 1) text) still ∙ sym (refused text long)

-- ---- from a job that is done to what a request asks for

replayed : (text : List ℕ) (before after : Option (List ℕ)) (result : Result (Unit {0}) Failure)
    → Prints (replay_of text) before after result → Replays text before after result
replayed text before after (Err CannotRead) prints = tt
replayed text before after other prints = prints

case_ran : (options : RunOptions) (config : Config) (text : List ℕ) (before after : Option (List ℕ))
    (result : Result (Unit {0}) Failure)
    → unknown_name options.names ≡ None → HasConfig options config
    → PrintsCase (case_text_of config text) before after result → Runs options text before after result
case_ran options config text before after (Err (UnknownCall name)) known has prints = absurd prints
case_ran options config text before after (Err CannotRead) known has prints = known
case_ran options config text before after (Err NoMemory) known has prints = tt
case_ran options config text before after other known has prints = (
  known,
  (
    has.0,
    has.1,
    subst (λ (c : Config). PrintsCase (case_text_of c text) before after other) has.2 prints,
  ),
)

explored : (options : ExploreOptions) (text : List ℕ) (before after : Option (List ℕ))
    (result : Result (Unit {0}) Failure)
    → PrintsOutcomes options (litmus_content_of text) before after result → Explores options text before after result
explored options text before after (Err CannotRead) prints = tt
explored options text before after other prints = prints

explores_alike : (options : ExploreOptions) (a b : List ℕ) (before after : Option (List ℕ))
    (result : Result (Unit {0}) Failure)
    → litmus_content_of a ≡ litmus_content_of b → Explores options a before after result
    → Explores options b before after result
explores_alike options a b before after (Err CannotRead) same explores = tt
explores_alike options a b before after other same explores =
    subst (λ (r : Result LitmusContent CaseError). PrintsOutcomes options r before after other) same explores

replays_alike : (a b : List ℕ) (before after : Option (List ℕ)) (result : Result (Unit {0}) Failure)
    → replay_of a ≡ replay_of b → Replays a before after result → Replays b before after result
replays_alike a b before after (Err CannotRead) same replays = tt
replays_alike a b before after other same replays =
    subst (λ (r : Result (List ℕ) CaseError). Prints r before after other) same replays

runs_alike : (options : RunOptions) (a b : List ℕ) (before after : Option (List ℕ)) (result : Result (Unit {0}) Failure)
    → case_of a ≡ case_of b → Runs options a before after result → Runs options b before after result
runs_alike options a b before after (Err (UnknownCall name)) same runs = runs
runs_alike options a b before after (Err CannotRead) same runs = runs
runs_alike options a b before after (Err NoMemory) same runs = tt
runs_alike options a b before after other same runs =
    let P : Result CaseContent CaseError → Type 0 = λ r.
    PrintsCase (r >>= λ content. Ok (text_of (plain (config_of options runs.1.0)) content)) before after other in (
      runs.0,
      (runs.1.0, runs.1.1, subst P same runs.1.2),
    )

-- what holds of a text that is read holds of one that may be read
answered : (Q : List ℕ → Type 0) (file : Option (Bor (List ℕ))) (text : List ℕ) (input : Option (List ℕ))
    → (file ≡ None → IsReadOf input text) → ((all : List ℕ) → Q (take (most_bytes + 1) all) → Q all) → Q text
    → (read : List ℕ) × MayBeRead file input read × Q read
answered Q None text None read whole holds = (text, tt, holds)
answered Q None text (Some all) read whole holds = (all, refl, whole all (subst Q (read refl) holds))
answered Q (Some path) text input read whole holds = (text, tt, holds)

-- and what holds of every text
always : (Q : List ℕ → Type 0) (file : Option (Bor (List ℕ))) (input : Option (List ℕ)) → ((text : List ℕ) → Q text)
    → (read : List ℕ) × MayBeRead file input read × Q read
always Q None None holds = ([], tt, holds [])
always Q None (Some all) holds = (all, refl, holds all)
always Q (Some path) input holds = ([], tt, holds [])

-- a job that is done answers its request
pub job_answered : (request : Request) (job : Job) (input before after : Option (List ℕ))
    (result : Result (Unit {0}) Failure)
    → IsJob request input job → IsDone job before after result → AnswersRequest request input before after result
job_answered (Help text) (job.Print told) input before after result is done =
    subst (λ (bytes : List ℕ). Writes bytes before after result) is done
job_answered (Help text) (job.Replay bytes) input before after result is done = absurd is
job_answered (Help text) (job.Run config bytes) input before after result is done = absurd is
job_answered (Help text) (job.Explore asked bytes) input before after result is done = absurd is
job_answered (Replay file) (job.Print told) input before after result is done = absurd is
job_answered (Replay file) (job.Replay bytes) input before after result is done =
    answered (λ (text : List ℕ). Replays text before after result) file bytes.items input is
    (λ all. replays_alike _ all before after result (cut_alike replay_of replay_too_long all _ refl))
    (replayed bytes.items before after result done)
job_answered (Replay file) (job.Run config bytes) input before after result is done = absurd is
job_answered (Replay file) (job.Explore asked bytes) input before after result is done = absurd is
job_answered (Run options file) (job.Print told) input before after result is done = absurd is
job_answered (Run options file) (job.Replay bytes) input before after result is done = absurd is
job_answered (Run options file) (job.Run config bytes) input before after result is done =
    answered (λ (text : List ℕ). Runs options text before after result) file bytes.items input is.2
    (λ all. runs_alike options _ all before after result (cut_alike case_of case_too_long all _ refl))
    (case_ran options config bytes.items before after result is.0 is.1 done)
job_answered (Run options file) (job.Explore asked bytes) input before after result is done = absurd is
job_answered (Explore options file) (job.Print told) input before after result is done = absurd is
job_answered (Explore options file) (job.Replay bytes) input before after result is done = absurd is
job_answered (Explore options file) (job.Run config bytes) input before after result is done = absurd is
job_answered (Explore options file) (job.Explore asked bytes) input before after result is done =
    answered (λ (text : List ℕ). Explores options text before after result) file bytes.items input is.1
    (λ all. explores_alike options _ all before after result (cut_alike litmus_content_of litmus_too_long all _ refl))
    (explored options bytes.items before after result
    (subst (λ (o : ExploreOptions). PrintsOutcomes o (litmus_content_of bytes.items) before after result) is.0 done))

-- and so does a failure to come to a job
unread_replay : (text : List ℕ) (before after : Option (List ℕ)) (failure : Failure)
    → IsReadFailure failure → Replays text before after (Err failure)
unread_replay text before after CannotRead is = tt
unread_replay text before after NoMemory is = tt
unread_replay text before after failure is = absurd is

unread_run : (options : RunOptions) (file : Option (Bor (List ℕ))) (text : List ℕ) (before after : Option (List ℕ))
    (failure : Failure)
    → HasNoJob (Run options file) failure → Runs options text before after (Err failure)
unread_run options file text before after (UnknownCall name) has = has
unread_run options file text before after CannotRead has = has
unread_run options file text before after NoMemory has = tt
unread_run options file text before after failure has = absurd has

unread_explore : (options : ExploreOptions) (text : List ℕ) (before after : Option (List ℕ)) (failure : Failure)
    → IsReadFailure failure → Explores options text before after (Err failure)
unread_explore options text before after CannotRead is = tt
unread_explore options text before after NoMemory is = tt
unread_explore options text before after failure is = absurd is

pub no_job_answered : (request : Request) (input before after : Option (List ℕ)) (failure : Failure)
    → HasNoJob request failure → AnswersRequest request input before after (Err failure)
no_job_answered (Help text) input before after failure has = absurd has
no_job_answered (Replay file) input before after failure has =
    always (λ (text : List ℕ). Replays text before after (Err failure)) file input
    (λ text. unread_replay text before after failure has)
no_job_answered (Run options file) input before after failure has =
    always (λ (text : List ℕ). Runs options text before after (Err failure)) file input
    (λ text. unread_run options file text before after failure has)
no_job_answered (Explore options file) input before after failure has =
    always (λ (text : List ℕ). Explores options text before after (Err failure)) file input
    (λ text. unread_explore options text before after failure has)

-- ---- how the program ends

-- what is as it was is unwritten, however a run ends
pub untouched : {A : Type 0} (output : A) (ended : Result (Unit {0}) Failure) → IsUnwritten output output ended
untouched output (Ok done) = tt
untouched output (Err CannotWrite) = tt
untouched output (Err Forbidden) = tt
untouched output (Err failure) = refl

-- where it is known what the input has, the program ends by a result
pub ends_so : (Holds : List ℕ → Result (Unit {0}) Failure → Type 0) (input before after : Option (List ℕ))
    (ended : Result (Unit {0}) Failure) (status : ℕ) → IfSome input (λ text. Holds text ended)
    → IsReported before after ended → status ≡ run_status ended → IfSome input (λ text. Ends (Holds text) before after status)
ends_so Holds None before after ended status holds reported is = tt
ends_so Holds (Some text) before after ended status holds reported is = (ended, holds, reported, is)
